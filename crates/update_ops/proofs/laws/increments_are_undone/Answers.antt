use Rattle.std.proofs.Common.{neg_ℤ}
use Rattle.update_ops.specs.Clauses.{inc}
use Rattle.update_ops.proofs.Twice.{was_made, makes, counted}
use Rattle.update_ops.proofs.laws.increments_are_undone.Goals as goal

pub returns : goal.returns
returns c =
    λ path n m d new moment on_insert sound there range h.
    makes path (inc (neg_ℤ n)) new d moment on_insert (counted c.puts_are_seen.ensures.there path n m d new moment on_insert there range (was_made path (inc n) d new moment on_insert h).made) sound
