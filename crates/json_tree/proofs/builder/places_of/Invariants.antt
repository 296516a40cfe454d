use Rattle.std.proofs.Common.{take}
use Rattle.json_tree.specs.Places.{IsPlaces}
use Rattle.json_tree.proofs.builder.places_of.Given as goal

abbrev pub invariant-loop-i : goal.invariant-loop-i
invariant-loop-i l = IsPlaces l.places (take l.i l.members)
