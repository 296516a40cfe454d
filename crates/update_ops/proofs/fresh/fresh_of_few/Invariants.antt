use Rattle.std.proofs.Common.{◌≡◌, ◌++◌, map, drop}
use Rattle.json_tree.specs.View.{tree}
use Rattle.update_ops.specs.View.{trees}
use Rattle.update_ops.specs.Apply.{added}
use Rattle.update_ops.proofs.fresh.fresh_of_few.Given as goal

abbrev pub invariant-loop-value : goal.invariant-loop-value
invariant-loop-value l = added (map tree (drop l.value-index l.values)) (map tree l.elements ++ trees l.fresh.items) ≡ added (map tree l.values) (map tree l.elements)
