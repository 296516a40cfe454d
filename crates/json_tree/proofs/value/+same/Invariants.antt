use Rattle.std.proofs.Common.{◌≡◌, take, map}
use Rattle.json_tree.specs.View.{tree, pair_of}
use Rattle.json_tree.proofs.value.+same.Given as goal

abbrev pub invariant-Items::same-loop-i : goal.invariant-Items::same-loop-i
invariant-Items::same-loop-i l = take l.i (map tree l.self-inside.items.items) ≡ take l.i (map tree l.other-inside.items.items)

abbrev pub invariant-Members::same-loop-i : goal.invariant-Members::same-loop-i
invariant-Members::same-loop-i l = take l.i (map pair_of l.self-inside.pairs.items) ≡ take l.i (map pair_of l.other-inside.pairs.items)
