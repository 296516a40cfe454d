use Rattle.std.proofs.Common.{◌≡◌, ◌+◌, drop, map}
use Rattle.json_tree.specs.View.{pair_of}
use Rattle.json_tree.specs.Members.{place_of}
use Rattle.json_tree.proofs.value.Members.place.Given as goal

abbrev pub invariant-loop-i : goal.invariant-loop-i
invariant-loop-i l = place_of l.name (map pair_of l.self-inside.pairs.items) ≡ l.i + place_of l.name (drop l.i (map pair_of l.self-inside.pairs.items))
