use Rattle.json_tree.specs.View.{tree}
use Rattle.cmd_grammar.proofs.Tested.{id_absent, id_present}
use Rattle.cmd_grammar.proofs.documents.check_id.Goals as goal

pub returns-in-None : goal.returns-in-None
returns-in-None c = id_absent (tree c.args.document.now) tt c.in-None.ensures

pub returns-in-Some : goal.returns-in-Some
returns-in-Some c = id_present (tree c.args.document.now) (tree c.in-Some.id.now) c.check_id_value.result c.in-Some.ensures c.check_id_value.ensures
