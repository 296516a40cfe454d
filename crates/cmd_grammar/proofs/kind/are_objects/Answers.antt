use Rattle.std.proofs.Common.{ap, ◌∙◌}
use Rattle.std.specs.List.{list_all}
use Rattle.json_tree.specs.View.{tree}
use Rattle.update_ops.specs.Faults.{is_object}
use Rattle.cmd_grammar.proofs.Inside.{objects_are}
use Rattle.cmd_grammar.proofs.kind.are_objects.Goals as goal

pub returns-then-len-ne0 : goal.returns-then-len-ne0
returns-then-len-ne0 c =
    c.all_objects.ensures ∙ ap (list_all is_object) c.as_slice.ensures ∙ objects_are (tree c.args.value.now) c.in-List.items (ap tree c.in-List.is) (λ e. c.if-len-ne0.true (c.len.ensures ∙ e))
