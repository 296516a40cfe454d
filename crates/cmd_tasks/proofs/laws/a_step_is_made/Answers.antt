use Rattle.cmd_tasks.proofs.Sessions.{session_steps}
use Rattle.cmd_tasks.proofs.laws.a_step_is_made.Goals as goal

pub returns : goal.returns
returns c = session_steps
