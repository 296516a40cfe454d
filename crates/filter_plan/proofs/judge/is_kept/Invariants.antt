use Rattle.std.proofs.Common.{◌≡◌, false, take}
use Rattle.std.specs.List.{list_any}
use Rattle.filter_plan.specs.Keeps.{keeps}
use Rattle.filter_plan.proofs.judge.is_kept.Given as goal

abbrev pub invariant-loop-entry : goal.invariant-loop-entry
invariant-loop-entry l = list_any (keeps l.kept) (take l.entry-index l.run) ≡ false
