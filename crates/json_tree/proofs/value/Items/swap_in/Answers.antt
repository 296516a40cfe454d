use Rattle.std.proofs.Common.{◌<◌, ◌∙◌, map, length, ap, sym, refl, subst, arith, slice_get, option_map, Some}
use Rattle.std.proofs.lemmas.List.{map-set, length-map}
use Rattle.std.proofs.lemmas.Option.{slice_get-map, slice_get_read}
use Rattle.json_tree.specs.View.{tree}
use Rattle.json_tree.specs.Writable.{IsValue}
use Rattle.json_tree.proofs.Values.{All, values_set}
use Rattle.json_tree.proofs.value.Items.swap_in.Goals as goal

pub invariant_of-self : goal.invariant_of-self
invariant_of-self c =
    let value : IsValue (tree c.replace.new.dest) = subst (λ v. IsValue (tree v)) (sym c.replace.ensures.after) c.by_type.ensures in
    subst All (sym (map-set tree c.self.inside.items.items c.args.place c.replace.new.dest)) (values_set (map tree c.self.inside.items.items) c.args.place (tree c.replace.new.dest) c.self.invariant value)

pub returns-clause-old : goal.returns-clause-old
returns-clause-old c =
    let xs = c.self.inside.items.items in
    let within : c.args.place < length xs = omega (arith, c.requires, ap length c.self.view_is, length-map xs tree) in
    ap (λ l. slice_get l c.args.place) (sym c.self.view_is) ∙ slice_get-map tree xs c.args.place
    ∙ ap (option_map tree) (slice_get_read xs (length xs) c.args.place c.index_mut.result.now refl within c.index_mut.ensures.value) ∙ ap (λ v. Some (tree v)) (sym c.replace.ensures.value)
