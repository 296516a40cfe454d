use Rattle.cmd_tasks.proofs.Extension.{session_more}
use Rattle.cmd_tasks.proofs.laws.others_may_write.Goals as goal

pub returns : goal.returns
returns c = session_more
