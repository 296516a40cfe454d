use Rattle.std.proofs.Common.{ap, ◌∙◌}
use Rattle.filter_plan.specs.Steps.{verdict}
use Rattle.filter_plan.proofs.Judgement.{judgement}
use Rattle.filter_plan.proofs.step.Plan.judge.Goals as goal

pub returns : goal.returns
returns c = λ d f plan ready wf wd are. judgement d c.args.columns.now f c.judge.result (c.judge.ensures ∙ ap (verdict c.args.columns.now) plan.0) (record { writable = wd; alike = c.same_decides.ensures; apart = c.texts_tell_values.ensures }) wf are ready
