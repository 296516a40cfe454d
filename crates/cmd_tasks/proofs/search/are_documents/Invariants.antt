use Rattle.std.proofs.Common.{take}
use Rattle.cmd_tasks.specs.Finding.{AreDocuments}
use Rattle.cmd_tasks.proofs.search.are_documents.Given as goal

abbrev pub invariant-loop-row : goal.invariant-loop-row
invariant-loop-row l = AreDocuments (take l.row-index l.rows)
