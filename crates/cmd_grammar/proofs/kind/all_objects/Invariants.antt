use Rattle.std.proofs.Common.{◌≡◌, drop, map}
use Rattle.std.specs.List.{list_all}
use Rattle.json_tree.specs.View.{tree}
use Rattle.update_ops.specs.Faults.{is_object}
use Rattle.cmd_grammar.proofs.kind.all_objects.Given as goal

abbrev pub invariant-loop-value : goal.invariant-loop-value
invariant-loop-value l = list_all is_object (map tree (drop l.value-index l.values)) ≡ list_all is_object (map tree l.values)
