use Rattle.store_core.proofs.Growths.{look_grows}
use Rattle.store_core.proofs.store.Store.look.Goals as goal

pub returns-clause-grows : goal.returns-clause-grows
returns-clause-grows g c = look_grows g.K.Keeper.failed _ _ _ _ _ _ c.look_once-looked.ensures.answers
