use Rattle.std.proofs.Common.{◌<◌, ◌∙◌, map, length, ap, sym, refl, subst, arith, slice_get, option_map}
use Rattle.std.proofs.lemmas.List.{length-map}
use Rattle.std.proofs.lemmas.Option.{slice_get-map, slice_get_read}
use Rattle.json_tree.specs.View.{tree}
use Rattle.json_tree.proofs.Lists.{map-remove}
use Rattle.json_tree.proofs.Values.{All, values_remove}
use Rattle.json_tree.proofs.value.Items.remove.Goals as goal

pub invariant_of-self : goal.invariant_of-self
invariant_of-self c =
    let is = ap (map tree) c.remove.ensures.items ∙ map-remove tree c.self.inside.items.items c.args.place in
    subst All (sym is) (values_remove (map tree c.self.inside.items.items) c.args.place c.self.invariant)

pub returns-clause-old : goal.returns-clause-old
returns-clause-old c =
    let xs = c.self.inside.items.items in
    let within : c.args.place < length xs = omega (arith, c.requires, ap length c.self.view_is, length-map xs tree) in
    ap (λ l. slice_get l c.args.place) (sym c.self.view_is) ∙ slice_get-map tree xs c.args.place ∙ ap (option_map tree) (slice_get_read xs (length xs) c.args.place c.remove.result refl within c.remove.ensures.value)
