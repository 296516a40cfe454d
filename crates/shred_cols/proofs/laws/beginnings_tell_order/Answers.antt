use Rattle.shred_cols.proofs.Headed.{begins_less, begins_greater}
use Rattle.shred_cols.proofs.laws.beginnings_tell_order.Goals as goal

pub returns-clause-less : goal.returns-clause-less
returns-clause-less c = begins_less

pub returns-clause-greater : goal.returns-clause-greater
returns-clause-greater c = begins_greater
