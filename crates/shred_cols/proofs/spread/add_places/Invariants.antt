use Rattle.std.proofs.Common.{take}
use Rattle.shred_cols.specs.Adds.{Adds, Each, OfColumn}
use Rattle.shred_cols.proofs.spread.add_places.Given as goal

abbrev pub invariant-loop-i : goal.invariant-loop-i
invariant-loop-i l = Adds l.initial.entries.items l.entries.items (λ e. Each (OfColumn l.column) (take l.i l.places) e)
