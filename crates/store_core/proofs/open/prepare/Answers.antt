use Rattle.std.proofs.Common.{◌≡◌, ◌∙◌, sym, ap}
use Rattle.store_core.proofs.Openings.{prepares_from}
use Rattle.store_core.proofs.open.prepare.Goals as goal

pub prepare_listed-requires-clause-listed : goal.prepare_listed-requires-clause-listed
prepare_listed-requires-clause-listed g c = λ t told.
    let l = c.in-Ok.ensures.listed t (sym c.list.ensures.kept ∙ told) in
    (c.as_slice.ensures.value ∙ l.0, l.1)

pub returns-in-Ok-clause-prepares : goal.returns-in-Ok-clause-prepares
returns-in-Ok-clause-prepares g c = prepares_from g.K.Keeper.tables c.args.names.now c.args.keeper.now c.list.new.self c.prepare_listed.new.keeper c.prepare_listed.result c.list.ensures.kept c.prepare_listed.ensures.prepares
