use Rattle.std.proofs.Common.{refl}
use Rattle.cmd_tasks.proofs.glance.faulted.Goals as goal

pub returns : goal.returns
returns c = (refl, c.fault_reply-reply.ensures)
