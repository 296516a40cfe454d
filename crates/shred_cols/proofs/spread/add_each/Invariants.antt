use Rattle.std.proofs.Common.{take}
use Rattle.shred_cols.specs.Adds.{Adds, OfKept}
use Rattle.shred_cols.proofs.spread.add_each.Given as goal

abbrev pub invariant-loop-i : goal.invariant-loop-i
invariant-loop-i l = Adds l.initial.entries.items l.entries.items (λ e. OfKept l.path (take l.i l.inside) e)
