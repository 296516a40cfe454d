use Rattle.cmd_grammar.proofs.Tested.{id_fires, names_decide}
use Rattle.cmd_grammar.proofs.documents.check_replacing.Goals as goal

pub returns-in-Ok : goal.returns-in-Ok
returns-in-Ok c = names_decide _ _ _ c.check_names.result c.in-Ok.ensures.0 c.check_names.ensures

pub returns-in-Err : goal.returns-in-Err
returns-in-Err c = id_fires _ _ _ c.in-Err.fault c.in-Err.ensures
