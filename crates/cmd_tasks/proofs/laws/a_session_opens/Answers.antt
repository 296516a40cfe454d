use Rattle.cmd_tasks.proofs.Opening.{session_opens}
use Rattle.cmd_tasks.proofs.laws.a_session_opens.Goals as goal

pub returns : goal.returns
returns c = session_opens
