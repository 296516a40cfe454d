use Rattle.cmd_grammar.proofs.Tested.{sizes_decide}
use Rattle.cmd_grammar.proofs.Order.{refuses_first}
use Rattle.cmd_grammar.proofs.documents.check_document.Goals as goal

pub returns-in-Ok : goal.returns-in-Ok
returns-in-Ok c = sizes_decide _ _ c.check_sizes.result c.in-Ok.ensures.0 c.check_sizes.ensures

pub returns-in-Err : goal.returns-in-Err
returns-in-Err c = refuses_first _ _ c.in-Err.fault c.in-Err.ensures
