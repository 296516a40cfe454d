use Rattle.store_core.proofs.Sessions.{session_known}
use Rattle.store_core.proofs.store.Store.open_session.Goals as goal

pub returns-clause-known : goal.returns-clause-known
returns-clause-known g c = session_known {K = g.row.K.Denot} c.enter_session-opened.result c.args.self.now c.enter_session-opened.new.self c.enter_session-opened.ensures.opened
