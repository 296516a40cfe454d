use Rattle.std.proofs.Common.{◌≡◌, length, map, take}
use Rattle.view_sort.proofs.projection.first_paths.Given as goal

abbrev pub invariant-loop-i : goal.invariant-loop-i
invariant-loop-i l = (l.paths.items ≡ take l.i (map (λ p. p.0) l.members)) × (length l.paths.items ≡ l.i)
