use Rattle.std.proofs.Common.{◌∙◌, ◌<◌, length, map, sym, ap, subst, refl, arith, option_map, slice_get, Some}
use Rattle.std.proofs.lemmas.List.{length-map}
use Rattle.std.proofs.lemmas.Option.{slice_get-map, slice_get_read}
use Rattle.json_tree.specs.Members.{all_distinct, revalue}
use Rattle.json_tree.specs.View.{tree, pair_of}
use Rattle.json_tree.proofs.Names.{revalued, distinct_revalue}
use Rattle.json_tree.specs.Writable.{IsValue}
use Rattle.json_tree.proofs.Values.{AllNamed, members_revalue}
use Rattle.json_tree.proofs.value.Members.swap_in.Goals as goal

within : (c : goal.After-self-1) → c.args.place < length c.self.inside.pairs.items
within c = omega (arith, c.requires, ap length c.self.view_is, length-map c.self.inside.pairs.items pair_of)

pub invariant_of-self : goal.invariant_of-self
invariant_of-self c =
    let ps = map pair_of c.self.inside.pairs.items in
    let is = revalued c.self.inside.pairs.items c.args.place c.index_mut.result.now c.replace.new.dest (within c) c.index_mut.ensures.value in
    let value : IsValue (tree c.replace.new.dest) = subst (λ v. IsValue (tree v)) (sym c.replace.ensures.after) c.by_type.ensures in
    (ap all_distinct is ∙ (distinct_revalue _ c.args.place _ ∙ c.self.invariant.0), subst AllNamed (sym is) (members_revalue ps c.args.place (tree c.replace.new.dest) c.self.invariant.1 value))

pub returns-clause-old : goal.returns-clause-old
returns-clause-old c =
    let xs = c.self.inside.pairs.items in
    ap (λ l. option_map (λ p. p.1) (slice_get l c.args.place)) (sym c.self.view_is)
    ∙ ap (option_map (λ p. p.1)) (slice_get-map pair_of xs c.args.place ∙ ap (option_map pair_of) (slice_get_read xs (length xs) c.args.place c.index_mut.result.now refl (within c) c.index_mut.ensures.value))
    ∙ ap (λ v. Some (tree v)) (sym c.replace.ensures.value)

pub returns-clause-new : goal.returns-clause-new
returns-clause-new c =
    revalued c.self.inside.pairs.items c.args.place c.index_mut.result.now c.replace.new.dest (within c) c.index_mut.ensures.value
    ∙ (λ i. revalue (c.self.view_is i) c.args.place (tree (c.replace.ensures.after i)))
