use Rattle.std.proofs.Common.{option_copied, sym, ◌∙◌, ap, map, ◌++◌, None, ◌≡◌}
use Rattle.std.specs.BTreeMap.{get_by_text}
use Rattle.json_tree.specs.View.{tree}
use Rattle.update_ops.specs.View.{trees}
use Rattle.update_ops.proofs.Texts.{unseen}
use Rattle.update_ops.proofs.fresh.is_seen.Goals as goal

pub returns-in-None : goal.returns-in-None
returns-in-None c =
    let none : get_by_text c.args.seen.now c.args.text.now ≡ None = sym (ap option_copied (sym c.in-None.is) ∙ c.get.ensures.value) in
    unseen (get_by_text c.args.seen.now) (tree c.args.value.now) c.same_decides.ensures (ap (get_by_text c.args.seen.now) (sym c.requires.text) ∙ none) (map tree c.args.elements.now ++ trees c.args.more.now) c.requires.seen
