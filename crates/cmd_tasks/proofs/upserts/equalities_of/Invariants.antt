use Rattle.std.proofs.Common.{◌≡◌, map, take}
use Rattle.filter_tree.specs.View.{equality_of as asked_of}
use Rattle.update_ops.specs.View.{equality_of}
use Rattle.cmd_tasks.proofs.upserts.equalities_of.Given as goal

abbrev pub invariant-loop-one : goal.invariant-loop-one
invariant-loop-one l = map equality_of l.equalities.items ≡ map asked_of (take l.one-index l.one-items)
