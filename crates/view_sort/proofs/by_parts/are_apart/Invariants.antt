use Rattle.std.proofs.Common.{◌≡◌, false}
use Rattle.std.specs.List.{AllAdjacentBelow}
use Rattle.view_sort.specs.Projection.{overlap}
use Rattle.view_sort.proofs.by_parts.are_apart.Given as goal

abbrev pub invariant-loop-i : goal.invariant-loop-i
invariant-loop-i l = AllAdjacentBelow (λ p q. overlap p q ≡ false) l.sorted l.i
