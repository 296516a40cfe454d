use Rattle.cmd_tasks.proofs.Undisturbing.{alone_uncontested}
use Rattle.cmd_tasks.proofs.laws.a_session_alone_loses_nothing.Goals as goal

pub returns : goal.returns
returns c base before more k exchanges by own session = alone_uncontested base before more k exchanges session by own
