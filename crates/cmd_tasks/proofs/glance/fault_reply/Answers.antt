use Rattle.reply_env.specs.Messages as errors
use Rattle.cmd_tasks.proofs.glance.fault_reply.Goals as goal

pub returns : goal.returns
returns c = c.refuse.ensures (errors.store_fault c.args.before c.args.after) c.store_fault.ensures
