use Rattle.std.proofs.Common.{refl}
use Rattle.json_tree.specs.View.{tree}
use Rattle.update_ops.specs.View.{standing}
use Rattle.update_ops.proofs.Idle.{put_there}
use Rattle.update_ops.proofs.draft.put.Goals as goal

pub returns-then-is_there : goal.returns-then-is_there
returns-then-is_there c = put_there c.args.path.now (tree c.args.new) (standing (tree c.args.given.now) c.args.changed) (rw c.standing.ensures at (c.if-is_there.ensures refl))
