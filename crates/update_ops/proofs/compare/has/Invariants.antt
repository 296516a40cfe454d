use Rattle.std.proofs.Common.{◌≡◌, map, drop}
use Rattle.std.specs.List.{list_any}
use Rattle.json_tree.specs.View.{tree}
use Rattle.json_tree.specs.Same.{same}
use Rattle.update_ops.proofs.compare.has.Given as goal

abbrev pub invariant-loop-element : goal.invariant-loop-element
invariant-loop-element l = list_any (λ t. same t (tree l.value)) (map tree (drop l.element-index l.elements)) ≡ list_any (λ t. same t (tree l.value)) (map tree l.elements)
