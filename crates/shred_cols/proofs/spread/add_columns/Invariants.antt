use Rattle.shred_cols.specs.Adds.{Adds, Each, OfBefore}
use Rattle.shred_cols.proofs.spread.add_columns.Given as goal

abbrev pub invariant-loop-column : goal.invariant-loop-column
invariant-loop-column l = Adds l.initial.entries.items l.entries.items (λ e. Each (OfBefore l.column) l.places e)
