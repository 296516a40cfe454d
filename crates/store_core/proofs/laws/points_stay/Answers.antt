use Rattle.store_core.proofs.Extension.{state_stays, entry_stays, journal_front}
use Rattle.store_core.proofs.laws.points_stay.Goals as goal

pub returns-clause-states : goal.returns-clause-states
returns-clause-states c = state_stays

pub returns-clause-entries : goal.returns-clause-entries
returns-clause-entries c = entry_stays

pub returns-clause-journals : goal.returns-clause-journals
returns-clause-journals c = journal_front
