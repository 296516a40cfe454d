use Rattle.std.proofs.Common.{Ok, None, option_map, sym, ◌≡◌, ◌∙◌, ap}
use Rattle.json_tree.specs.View.{tree}
use Rattle.doc_paths.specs.At.{at}
use Rattle.doc_paths.specs.Text.{parts}
use Rattle.update_ops.specs.Apply.{moved}
use Rattle.update_ops.proofs.Idle.{without_none}
use Rattle.update_ops.proofs.draft.move_inside.Goals as goal

pub returns-in-Ok-None : goal.returns-in-Ok-None
returns-in-Ok-None c =
    let none : at (tree c.args.value.now) (parts c.args.path.now) ≡ None = sym c.in-Ok-None.ensures.taken ∙ ap (option_map tree) c.in-Ok-None.field-0-is in
    ap (moved c.args.path.now c.args.to.now (tree c.args.value.now)) none ∙ ap Ok (sym (without_none (tree c.args.value.now) (parts c.args.path.now) none)) ∙ ap Ok (sym c.take_at.ensures.left)
