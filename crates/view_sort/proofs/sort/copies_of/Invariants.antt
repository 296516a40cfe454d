use Rattle.std.proofs.Common.{◌≡◌, map, take}
use Rattle.view_sort.proofs.sort.copies_of.Given as goal

abbrev pub invariant-loop-one : goal.invariant-loop-one
invariant-loop-one l = l.found.items ≡ map (λ r. r.1) (take l.one-index l.ranked)
