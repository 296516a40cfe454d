use Rattle.std.proofs.Common.{◌∙◌, map, ap, sym, subst}
use Rattle.json_tree.specs.View.{tree}
use Rattle.json_tree.proofs.Lists.{map-insert}
use Rattle.json_tree.proofs.Values.{All, values_insert}
use Rattle.json_tree.proofs.value.Items.insert.Goals as goal

pub invariant_of-self-2 : goal.invariant_of-self-2
invariant_of-self-2 c =
    let is = ap (map tree) c.in_ok-insert.ensures.items ∙ map-insert tree c.self.inside.items.items c.args.place c.args.value in
    subst All (sym is) (values_insert (map tree c.self.inside.items.items) c.args.place (tree c.args.value) c.self.invariant c.by_type.ensures)
