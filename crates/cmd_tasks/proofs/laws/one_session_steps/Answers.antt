use Rattle.cmd_tasks.proofs.Schedules.{one_steps}
use Rattle.cmd_tasks.proofs.laws.one_session_steps.Goals as goal

pub returns : goal.returns
returns c = one_steps
