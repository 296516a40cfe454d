use Rattle.std.proofs.Common.{sym, subst}
use Rattle.store_core.specs.Store.{told_start}
use Rattle.store_core.proofs.Histories.{Kept, begins_so}
use Rattle.store_core.proofs.Bases.{base_old}
use Rattle.store_core.proofs.store.Store.begin.Goals as goal

pub invariant_of-result : goal.invariant_of-result
invariant_of-result g c =
    subst (λ (v : g.row.K.Denot). Kept (told_start g.K.Keeper.tables g.K.Keeper.failed v) c.args.first (g.K.Keeper.failed v) c.new.result.items (g.K.Keeper.tables c.args.keeper) (g.K.Keeper.failed c.args.keeper) 0 0 0) (sym c.of.ensures)
    (begins_so c.args.first (g.K.Keeper.failed c.args.keeper) (g.K.Keeper.tables c.args.keeper) c.new.result.items (λ t told. (c.requires.next t told, base_old t (g.K.Keeper.failed c.args.keeper) (c.faults-faults.ensures.sound t told), let sound = c.faults-faults.ensures.sound t told in sound.apart)) c.requires.bounds.0 c.requires.bounds.1 c.new.ensures.items)
