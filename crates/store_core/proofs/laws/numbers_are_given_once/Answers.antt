use Rattle.store_core.proofs.Numbers.{once_from}
use Rattle.store_core.proofs.laws.numbers_are_given_once.Goals as goal

pub returns : goal.returns
returns c = once_from
