use Rattle.std.proofs.Common.{Ok, ap}
use Rattle.json_tree.specs.View.{tree}
use Rattle.doc_paths.specs.Text.{parts}
use Rattle.update_ops.specs.View.{standing}
use Rattle.update_ops.proofs.Idle.{without_none, shows_none}
use Rattle.update_ops.proofs.draft.unset.Goals as goal

pub returns-then-is_none : goal.returns-then-is_none
returns-then-is_none c = ap Ok (without_none (standing (tree c.args.given.now) c.args.changed) (parts c.args.path.now) (rw c.standing.ensures at (shows_none c.at.result _ c.if-is_none.ensures c.at.ensures)))
