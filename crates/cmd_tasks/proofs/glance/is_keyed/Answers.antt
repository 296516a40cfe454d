use Rattle.cmd_tasks.proofs.Ranks.{keyed_of}
use Rattle.cmd_tasks.proofs.glance.is_keyed.Goals as goal

pub returns : goal.returns
returns c = keyed_of c.args.id.now c.value.ensures.id.0 c.value.ensures.id.1
