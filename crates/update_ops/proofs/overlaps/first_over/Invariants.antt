use Rattle.std.proofs.Common.{◌≡◌, drop}
use Rattle.std.specs.List.{find}
use Rattle.update_ops.specs.Faults.{overlap}
use Rattle.update_ops.proofs.overlaps.first_over.Given as goal

abbrev pub invariant-loop-other : goal.invariant-loop-other
invariant-loop-other l = find (overlap l.path) (drop l.other-index l.others) ≡ find (overlap l.path) l.others
