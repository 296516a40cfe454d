use Rattle.std.proofs.Common.{◌≡◌, ◌++◌, drop, map}
use Rattle.shred_cols.specs.Entry.{kept_of}
use Rattle.filter_plan.proofs.planning.kept_each.Given as goal

abbrev pub invariant-loop-i : goal.invariant-loop-i
invariant-loop-i l = l.kepts ++ map kept_of (drop l.i l.operands) ≡ map kept_of l.operands
