use Rattle.update_ops.proofs.Changes.{not_changed}
use Rattle.update_ops.proofs.applying.unchanged.Goals as goal

pub returns-in-Ok-clause-changed : goal.returns-in-Ok-clause-changed
returns-in-Ok-clause-changed c = not_changed c.args.old.now c.in-Ok.doc c.same_decides.ensures c.in-Ok.ensures.ok
