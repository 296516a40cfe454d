use Rattle.filter_plan.proofs.Opens.{no_open}
use Rattle.filter_plan.proofs.laws.nothing_is_open.Goals as goal

pub returns : goal.returns
returns c = no_open
