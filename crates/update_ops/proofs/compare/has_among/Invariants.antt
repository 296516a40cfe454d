use Rattle.std.proofs.Common.{◌≡◌, drop}
use Rattle.std.specs.List.{list_any}
use Rattle.json_tree.specs.View.{tree}
use Rattle.json_tree.specs.Same.{same}
use Rattle.update_ops.specs.View.{trees}
use Rattle.update_ops.proofs.compare.has_among.Given as goal

abbrev pub invariant-loop-other : goal.invariant-loop-other
invariant-loop-other l = list_any (λ t. same t (tree l.value)) (trees (drop l.other-index l.others)) ≡ list_any (λ t. same t (tree l.value)) (trees l.others)
