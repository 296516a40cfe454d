use Rattle.std.proofs.Common.{◌≡◌, ◌<◌, ◌∙◌, ◌++◌, ◌∷◌, [], refl, sym, ap, length, arith, rules}
use Rattle.store_core.proofs.Openings.{listed_already, found_already, found_new}
use Rattle.store_core.proofs.open.missing_of.Goals as goal

pub names-preserved-then-contains : goal.names-preserved-then-contains
names-preserved-then-contains c =
    let within : c.names.place < length c.args.names.now = omega arith in
    record { found = listed_already c.args.listed.now c.args.names.now c.names.place c.index-names-place.result _ within c.index-names-place.is c.names.invariant.found (search rules) }

pub names-preserved-then-contains-2 : goal.names-preserved-then-contains-2
names-preserved-then-contains-2 c =
    let within : c.names.place < length c.args.names.now = omega arith in
    record { found = found_already c.args.listed.now c.args.names.now c.names.place c.index-names-place.result _ within c.index-names-place.is c.names.invariant.found (search rules) }

pub names-preserved : goal.names-preserved
names-preserved c =
    let within : c.names.place < length c.args.names.now = omega arith in
    let pushed : c.push.new.self.items ≡ c.names.found.items ++ c.index-names-place.result ∷ [] = search rules in
    record { found = pushed ∙ found_new c.args.listed.now c.args.names.now c.names.place c.index-names-place.result _ within c.index-names-place.is c.names.invariant.found (search rules) (search rules) }
