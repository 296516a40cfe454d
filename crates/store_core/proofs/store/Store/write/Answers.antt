use Rattle.store_core.proofs.Growths.{write_grows}
use Rattle.store_core.proofs.store.Store.write.Goals as goal

pub returns-clause-grows : goal.returns-clause-grows
returns-clause-grows g c = write_grows g.K.Keeper.failed _ _ c.args.by _ _ _ _ _ c.write_once-outcome.ensures.answers
