use Rattle.std.proofs.Common.{◌≡◌, ◌∷◌, [], ◌++◌, drop, ◌+◌, ◌*◌, ◌==◌}
use Rattle.json_tree.specs.Tree.{list, object, elements_of, members_of, tree_size, trees_size, pairs_size}
use Rattle.json_tree.specs.View.{tree}
use Rattle.json_text.proofs.ListSteps.{rest_of_elements, rest_of_members}
use Rattle.json_text.specs.Print.{text_of, Extends}
use Rattle.json_text.proofs.print.+print.Given as goal

abbrev pub decreases-print_tree : goal.decreases-print_tree
decreases-print_tree l = 2 * tree_size (tree l.value.now)

abbrev pub decreases-print_elements : goal.decreases-print_elements
decreases-print_elements l = 2 * trees_size l.elements.now + 1

abbrev pub decreases-print_members : goal.decreases-print_members
decreases-print_members l = 2 * pairs_size l.members.now + 1

abbrev pub invariant-print_elements-loop-i : goal.invariant-print_elements-loop-i
invariant-print_elements-loop-i l = record {
  kept : Extends l.fn.out.items l.out.items;
  written : l.out.items ++ (rest_of_elements (l.i == 0) (elements_of (drop l.i l.elements)) ++ 93 ∷ []) ≡ l.fn.out.items ++ text_of (list (elements_of l.elements));
}

abbrev pub invariant-print_members-loop-i : goal.invariant-print_members-loop-i
invariant-print_members-loop-i l = record {
  kept : Extends l.fn.out.items l.out.items;
  written : l.out.items ++ (rest_of_members (l.i == 0) (members_of (drop l.i l.members)) ++ 125 ∷ []) ≡ l.fn.out.items ++ text_of (object (members_of l.members));
}
