use Rattle.cmd_tasks.proofs.Sessions.{session_begins}
use Rattle.cmd_tasks.proofs.laws.a_request_begins.Goals as goal

pub returns : goal.returns
returns c = session_begins
