use Rattle.update_ops.specs.Clauses.{set}
use Rattle.update_ops.proofs.Twice.{was_made, shows}
use Rattle.update_ops.proofs.laws.sets_are_seen.Goals as goal

pub returns : goal.returns
returns c = λ path x d new moment on_insert h. shows c.puts_are_seen.ensures.there path x d new (was_made path (set x) d new moment on_insert h).made
