use Rattle.std.proofs.Common.{◌≡◌, drop, map}
use Rattle.filter_plan.specs.Steps.{steps_of, either, any_verdict}
use Rattle.filter_plan.specs.View.{kept_step}
use Rattle.filter_plan.proofs.judge.among_run.Given as goal

abbrev pub invariant-loop-kept : goal.invariant-loop-kept
invariant-loop-kept l = either l.any (any_verdict l.columns (steps_of (map (kept_step l.path) (drop l.kept-index l.kepts)))) ≡ any_verdict l.columns (steps_of (map (kept_step l.path) l.kepts))
