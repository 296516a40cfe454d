use Rattle.shred_cols.proofs.Keys.{NoKey}
use Rattle.shred_cols.proofs.search.find_key.Given as goal

abbrev pub invariant-loop-column : goal.invariant-loop-column
invariant-loop-column l = NoKey l.entries l.path l.column
