use Rattle.filter_plan.proofs.Opens.{no_look}
use Rattle.filter_plan.proofs.laws.looks_are_of_open_conditions.Goals as goal

pub returns : goal.returns
returns c = no_look
