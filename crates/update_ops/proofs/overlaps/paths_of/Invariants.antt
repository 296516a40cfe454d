use Rattle.std.proofs.Common.{◌≡◌, ◌++◌, map, drop}
use Rattle.update_ops.specs.View.{clause_of}
use Rattle.update_ops.specs.Faults.{paths_of}
use Rattle.update_ops.proofs.overlaps.paths_of.Given as goal

abbrev pub invariant-loop-clause : goal.invariant-loop-clause
invariant-loop-clause l = l.paths.items ++ paths_of (map clause_of (drop l.clause-index l.clauses)) ≡ paths_of (map clause_of l.clauses)
