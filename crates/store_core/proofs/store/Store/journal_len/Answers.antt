use Rattle.std.proofs.Common.{sym}
use Rattle.store_core.proofs.Histories.{names_apart, next_is, sessions_now, faults_few}
use Rattle.store_core.proofs.store.Store.journal_len.Goals as goal

pub returns-clause-apart : goal.returns-clause-apart
returns-clause-apart g c = rw (← c.self.view_is) (names_apart _ _ _ _ _ _ c.self.invariant.0)

pub returns-clause-next : goal.returns-clause-next
returns-clause-next g c = rw (← c.self.view_is) (next_is _ _ _ _ _ _ c.self.invariant.0)

pub returns-clause-sessions : goal.returns-clause-sessions
returns-clause-sessions g c = rw (← c.self.view_is) (sessions_now _ _ _ _ _ _ c.self.invariant.0)

pub returns-clause-faults : goal.returns-clause-faults
returns-clause-faults g c = rw (← c.self.view_is) (faults_few _ _ _ _ _ _ c.self.invariant.0)
