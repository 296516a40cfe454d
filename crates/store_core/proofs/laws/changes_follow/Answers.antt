use Rattle.store_core.proofs.Numbers.{follows}
use Rattle.store_core.proofs.laws.changes_follow.Goals as goal

pub returns : goal.returns
returns c = λ start journal place by coll id change before tx lawful apart is. follows start journal place by coll id change before tx lawful apart is
