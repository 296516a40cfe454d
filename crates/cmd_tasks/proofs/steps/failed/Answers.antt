use Rattle.std.proofs.Common.{refl}
use Rattle.cmd_tasks.proofs.steps.failed.Goals as goal

pub returns : goal.returns
returns c = (refl, c.fault_reply-reply.ensures)
