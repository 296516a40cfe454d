use Rattle.std.proofs.Common.{refl, ◌<◌, length, arith}
use Rattle.store_core.proofs.Openings.{made_one, there_already, no_room}
use Rattle.store_core.proofs.open.create_missing.Goals as goal

pub names-preserved-in-Done : goal.names-preserved-in-Done
names-preserved-in-Done g c =
    let within : c.names.place < length c.args.names.now = omega arith in
    let before = c.names.invariant.grows in
    let after = c.create.ensures.grows in
    record {
      made = made_one c.args.names.now c.names.place c.index-names-place.result _ _ _ within c.index-names-place.is c.names.invariant.made (c.in-Done.ensures.done refl) (λ t told. (c.in-Done.ensures.answers t told).0);
      grows = omega (arith, before, after);
    }

pub names-preserved : goal.names-preserved
names-preserved g c =
    let within : c.names.place < length c.args.names.now = omega arith in
    let before = c.names.invariant.grows in
    let after = c.create.ensures.grows in
    record {
      made = there_already c.args.names.now c.names.place c.index-names-place.result _ _ _ within c.index-names-place.is c.names.invariant.made (c.in-There.ensures.kept (λ e. cc)) c.in-There.ensures.answers;
      grows = omega (arith, before, after);
    }

pub returns-in-Full-clause-full : goal.returns-in-Full-clause-full
returns-in-Full-clause-full g c =
    let within : c.names.place < length c.args.names.now = omega arith in
    λ same. no_room c.args.names.now c.names.place c.index-names-place.result _ _ (g.K.Keeper.tables c.create.new.self) within c.index-names-place.is c.names.invariant.made (λ t told. let a = c.in-Full.ensures.answers t told in a.1)
