use Rattle.json_tree.specs.View.{tree}
use Rattle.cmd_grammar.specs.Documents.{document_refusal}
use Rattle.cmd_grammar.proofs.Order.{refuses_at, passes_at}
use Rattle.cmd_grammar.proofs.documents.check_each_document.Goals as goal

pub returns-in-Err : goal.returns-in-Err
returns-in-Err c = refuses_at document_refusal c.args.documents.now c.loop-i.i (tree c.in-Some.document.now) c.in-Err.fault c.in-Some.ensures c.in-Err.ensures c.loop-i.invariant

pub loop-i-preserved : goal.loop-i-preserved
loop-i-preserved c = passes_at document_refusal c.args.documents.now c.loop-i.i (tree c.in-Some.document.now) c.in-Some.ensures c.in-Ok.ensures.0 c.loop-i.invariant
