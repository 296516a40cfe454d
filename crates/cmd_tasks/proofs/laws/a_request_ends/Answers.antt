use Rattle.cmd_tasks.proofs.Sessions.{session_ends}
use Rattle.cmd_tasks.proofs.laws.a_request_ends.Goals as goal

pub returns : goal.returns
returns c = session_ends
