use Rattle.store_core.proofs.Growths.{page_grows}
use Rattle.store_core.proofs.store.Store.page.Goals as goal

pub returns-clause-grows : goal.returns-clause-grows
returns-clause-grows g c = page_grows g.K.Keeper.failed _ _ _ _ _ _ _ c.page_once-paged.ensures.answers
