use Rattle.std.proofs.Common.{◌≡◌, take}
use Rattle.view_sort.proofs.by_parts.with_places.Given as goal

abbrev pub invariant-loop-place : goal.invariant-loop-place
invariant-loop-place l = l.all.items ≡ take l.place l.paths
