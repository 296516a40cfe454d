use Rattle.std.proofs.Common.{refl, sym, ap, inr}
use Rattle.reply_env.specs.declared.reply.Reply.TheVariants.{NoMemory}
use Rattle.cmd_tasks.proofs.taking.putting.Goals as goal
