use Rattle.std.proofs.Common.{ℕ, List, refl, subst}
use Rattle.reply_env.specs.Messages as errors
use Rattle.cmd_tasks.specs.Looking.{Refuses}
use Rattle.cmd_tasks.proofs.glance.gone.Goals as goal

pub returns : goal.returns
returns c = (
  (refl, refl, refl, c.new.ensures.items),
  subst (λ (n : List ℕ). Refuses (errors.no_collection n) c.refuse-reply.result) c.text.ensures.value (c.refuse-reply.ensures (errors.no_collection c.text.result.now) c.no_collection.ensures),
)
