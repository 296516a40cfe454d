use Rattle.std.proofs.Common.{◌≡◌, drop}
use Rattle.cmd_grammar.specs.First.{first_by}
use Rattle.cmd_grammar.specs.Documents.{document_refusal}
use Rattle.cmd_grammar.proofs.documents.check_each_document.Given as goal

abbrev pub invariant-loop-i : goal.invariant-loop-i
invariant-loop-i l = first_by document_refusal l.documents ≡ first_by document_refusal (drop l.i l.documents)
