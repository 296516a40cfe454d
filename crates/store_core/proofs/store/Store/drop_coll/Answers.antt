use Rattle.store_core.proofs.Growths.{drop_grows}
use Rattle.store_core.proofs.store.Store.drop_coll.Goals as goal

pub returns-clause-grows : goal.returns-clause-grows
returns-clause-grows g c = drop_grows g.K.Keeper.failed _ _ _ _ _ c.drop_once-shaped.ensures.answers
