use Rattle.std.proofs.Common.{◌∙◌, map, length, sym, ap, subst, refl, arith, option_map, slice_get, ◌<◌}
use Rattle.std.specs.List.{remove}
use Rattle.std.proofs.lemmas.List.{length-map}
use Rattle.std.proofs.lemmas.Option.{slice_get-map, slice_get_read, slice_get_past}
use Rattle.json_tree.specs.Members.{all_distinct}
use Rattle.json_tree.specs.View.{pair_of}
use Rattle.json_tree.proofs.Lists.{map-remove}
use Rattle.json_tree.proofs.Names.{member_is, without_is, without_absent, distinct_remove}
use Rattle.json_tree.proofs.Values.{AllNamed, members_remove}
use Rattle.json_tree.proofs.value.Members.remove.Goals as goal

pub invariant_of-self : goal.invariant_of-self
invariant_of-self c =
    let ps = map pair_of c.self.inside.pairs.items in
    let is = ap (map pair_of) c.remove-value.ensures.items ∙ map-remove pair_of c.self.inside.pairs.items c.place-place.result in
    (ap all_distinct is ∙ distinct_remove ps c.place-place.result c.self.invariant.0, subst AllNamed (sym is) (members_remove ps c.place-place.result c.self.invariant.1))

pub returns-then-place-len-clause-new : goal.returns-then-place-len-clause-new
returns-then-place-len-clause-new c =
    ap (map pair_of) c.remove-value.ensures.items ∙ map-remove pair_of c.self.inside.pairs.items c.place-place.result
    ∙ (λ i. remove (c.self.view_is i) (c.place-place.ensures.value i)) ∙ sym (without_is c.args.name.now c.args.self.now)

pub returns-then-place-len-clause-old : goal.returns-then-place-len-clause-old
returns-then-place-len-clause-old c =
    let xs = c.self.inside.pairs.items in
    let within : c.place-place.result < length xs = omega (arith, ap length c.self.view_is, length-map xs pair_of) in
    let read = slice_get_read xs (length xs) c.place-place.result c.remove-value.result refl within c.remove-value.ensures.value in
    sym (
    member_is c.args.name.now c.args.self.now
    ∙ (λ i. option_map (λ p. p.1) (slice_get (sym c.self.view_is i) (sym c.place-place.ensures.value i)))
    ∙ ap (option_map (λ p. p.1)) (slice_get-map pair_of xs c.place-place.result ∙ ap (option_map pair_of) read)
    )

pub returns-else-place-len-clause-old : goal.returns-else-place-len-clause-old
returns-else-place-len-clause-old c =
    sym (member_is c.args.name.now c.args.self.now ∙ ap (option_map (λ p. p.1)) (slice_get_past c.args.self.now _ (omega (arith, c.place-place.ensures.value))))

pub returns-else-place-len-clause-new : goal.returns-else-place-len-clause-new
returns-else-place-len-clause-new c = sym (without_absent c.args.name.now c.args.self.now (omega arith))
