use Rattle.store_core.proofs.Growths.{list_grows}
use Rattle.store_core.proofs.store.Store.names.Goals as goal

pub returns-clause-grows : goal.returns-clause-grows
returns-clause-grows g c = list_grows g.K.Keeper.failed _ _ _ _ c.list_once-listed.ensures.answers
