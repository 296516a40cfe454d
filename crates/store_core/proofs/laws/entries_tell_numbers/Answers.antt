use Rattle.store_core.proofs.Numbers.{number_told, touched_since}
use Rattle.store_core.proofs.laws.entries_tell_numbers.Goals as goal

pub returns-clause-told : goal.returns-clause-told
returns-clause-told c = number_told

pub returns-clause-touched : goal.returns-clause-touched
returns-clause-touched c = touched_since
