use Rattle.update_ops.proofs.Settled.{settled}
use Rattle.update_ops.proofs.laws.steady_updates_settle.Goals as goal

pub returns : goal.returns
returns c = λ cs d new moment on_insert steady clear h. settled c.puts_are_seen.ensures.there c.puts_are_seen.ensures.others c.same_decides.ensures cs d new moment on_insert steady clear h
