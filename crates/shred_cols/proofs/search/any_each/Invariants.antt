use Rattle.std.proofs.Common.{◌≡◌, false, take}
use Rattle.std.specs.List.{list_any}
use Rattle.shred_cols.specs.Probe.{inside}
use Rattle.shred_cols.proofs.search.any_each.Given as goal

abbrev pub invariant-loop-entry : goal.invariant-loop-entry
invariant-loop-entry l = list_any (inside l.probe) (take l.entry-index l.run) ≡ false
