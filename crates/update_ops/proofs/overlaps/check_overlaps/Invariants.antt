use Rattle.std.proofs.Common.{◌≡◌, [], take, drop}
use Rattle.update_ops.specs.Faults.{overlap_in}
use Rattle.update_ops.proofs.overlaps.check_overlaps.Given as goal

abbrev pub invariant-loop-i : goal.invariant-loop-i
invariant-loop-i l = overlap_in (take l.i l.paths) (drop l.i l.paths) ≡ overlap_in [] l.paths
