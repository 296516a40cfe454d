use Rattle.store_core.proofs.Growths.{create_grows}
use Rattle.store_core.proofs.store.Store.create.Goals as goal

pub returns-clause-grows : goal.returns-clause-grows
returns-clause-grows g c = create_grows g.K.Keeper.failed _ _ _ _ _ c.create_once-shaped.ensures.answers
