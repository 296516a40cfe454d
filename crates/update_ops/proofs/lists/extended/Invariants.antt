use Rattle.std.proofs.Common.{◌≡◌, ◌++◌, drop}
use Rattle.update_ops.specs.View.{trees}
use Rattle.update_ops.proofs.lists.extended.Given as goal

abbrev pub invariant-loop-value : goal.invariant-loop-value
invariant-loop-value l = l.out ++ trees (drop l.value-index l.values) ≡ l.items ++ trees l.values
