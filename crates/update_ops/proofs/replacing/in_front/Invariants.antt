use Rattle.std.proofs.Common.{◌≡◌, ◌∷◌, take, codes}
use Rattle.json_tree.specs.View.{tree}
use Rattle.update_ops.proofs.replacing.in_front.Given as goal

abbrev pub invariant-loop-i : goal.invariant-loop-i
invariant-loop-i l = l.object ≡ (codes "_id", tree l.id) ∷ take l.i l.members
