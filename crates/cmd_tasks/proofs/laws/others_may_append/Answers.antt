use Rattle.cmd_tasks.proofs.Standing.{stands_longer}
use Rattle.cmd_tasks.proofs.laws.others_may_append.Goals as goal

pub returns : goal.returns
returns c = stands_longer
