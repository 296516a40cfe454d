use Rattle.std.proofs.Common.{◌∙◌, ap}
use Rattle.cmd_tasks.proofs.Running.{handed_back, is_done}
use Rattle.cmd_tasks.proofs.run.serve.Goals as goal

pub into_served-requires : goal.into_served-requires
into_served-requires g c = is_done c.make_steps.result.state _ c.make_steps.ensures.served

pub returns-clause-served : goal.returns-clause-served
returns-clause-served g c = handed_back c.args.store.now.start c.args.store.now.journal c.make_steps.new.store.journal c.args.task.session c.args.task c.make_steps.result c.into_served.result c.make_steps.ensures.same c.into_served.ensures.reply c.into_served.ensures.trace c.make_steps.ensures.served

pub returns-clause-moment : goal.returns-clause-moment
returns-clause-moment g c = ap (λ t. t.moment) c.into_served.ensures.trace ∙ c.make_steps.ensures.same.moment
