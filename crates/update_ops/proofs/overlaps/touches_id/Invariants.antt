use Rattle.std.proofs.Common.{◌≡◌, drop}
use Rattle.std.specs.List.{list_any}
use Rattle.update_ops.specs.Faults.{of_id}
use Rattle.update_ops.proofs.overlaps.touches_id.Given as goal

abbrev pub invariant-loop-path : goal.invariant-loop-path
invariant-loop-path l = list_any of_id (drop l.path-index l.paths) ≡ list_any of_id l.paths
