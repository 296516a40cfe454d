use Rattle.cmd_tasks.proofs.Standing.{stands_served}
use Rattle.cmd_tasks.proofs.laws.a_task_may_be_cut_off.Goals as goal

pub returns : goal.returns
returns c = stands_served
