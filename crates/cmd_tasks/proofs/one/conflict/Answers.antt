use Rattle.reply_env.specs.Messages as errors
use Rattle.cmd_tasks.proofs.one.conflict.Goals as goal

pub returns : goal.returns
returns c = c.refuse.ensures (errors.lost_writes c.args.lost.now) c.lost_writes.ensures
