use Rattle.json_tree.specs.View.{tree}
use Rattle.update_ops.proofs.UnderId.{right_some, right_none}
use Rattle.update_ops.proofs.replacing.has_no_wrong_id.Goals as goal

pub returns-in-Some : goal.returns-in-Some
returns-in-Some c = right_some c.args.members.now (tree c.in-Some.id.now) c.is_id.result c.in-Some.ensures c.is_id.ensures

pub returns-in-None : goal.returns-in-None
returns-in-None c = right_none c.args.members.now c.in-None.ensures
