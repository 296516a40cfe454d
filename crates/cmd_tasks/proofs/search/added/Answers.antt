use Rattle.std.proofs.Common.{refl, rules}
use Rattle.reply_env.specs.Messages as errors
use Rattle.cmd_tasks.proofs.search.added.Goals as goal

pub returns-then-are_too_many-clause-adds : goal.returns-then-are_too_many-clause-adds
returns-then-are_too_many-clause-adds c = (refl, search rules, c.refuse-reply.ensures errors.too_many_to_sort c.too_many_to_sort.ensures)
