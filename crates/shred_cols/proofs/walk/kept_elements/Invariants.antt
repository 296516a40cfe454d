use Rattle.std.proofs.Common.{◌≡◌, take, map}
use Rattle.shred_cols.specs.Entry.{kept_of}
use Rattle.shred_cols.proofs.walk.kept_elements.Given as goal

abbrev pub invariant-loop-i : goal.invariant-loop-i
invariant-loop-i l = l.inside.items ≡ map kept_of (take l.i l.items)
