use Rattle.cmd_tasks.proofs.Refusals.{refusal_is_own}
use Rattle.cmd_tasks.proofs.laws.a_refused_request_blames_itself.Goals as goal

pub returns : goal.returns
returns c = refusal_is_own
