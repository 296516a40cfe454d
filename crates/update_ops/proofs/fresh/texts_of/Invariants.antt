use Rattle.std.proofs.Common.{◌≡◌, map, take, true}
use Rattle.json_tree.specs.View.{tree}
use Rattle.update_ops.specs.Seen.{are_seen}
use Rattle.update_ops.proofs.fresh.texts_of.Given as goal

abbrev pub invariant-loop-i : goal.invariant-loop-i
invariant-loop-i l = are_seen l.seen (map tree (take l.i l.elements)) ≡ true
