use Rattle.std.proofs.Common.{◌∙◌}
use Rattle.filter_plan.proofs.Near.{run_inside}
use Rattle.filter_plan.proofs.judge.keeps_near.Goals as goal

pub returns : goal.returns
returns c = c.is_kept.ensures ∙ run_inside c.args.path.now c.args.kept.now c.args.run.now c.requires.only ∙ c.requires.asked c.args.kept.now
