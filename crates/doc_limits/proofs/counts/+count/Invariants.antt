use Rattle.std.proofs.Common.{◌≡◌, drop, ◌+◌, ◌*◌}
use Rattle.json_tree.specs.Tree.{list, object, elements_of, members_of, tree_size, trees_size, pairs_size}
use Rattle.json_tree.specs.View.{tree}
use Rattle.doc_limits.specs.Counts.{joined, tree_counts, list_counts, object_counts}
use Rattle.doc_limits.proofs.counts.+count.Given as goal

abbrev pub decreases-count : goal.decreases-count
decreases-count l = 2 * tree_size (tree l.value.now)

abbrev pub decreases-count_list : goal.decreases-count_list
decreases-count_list l = 2 * trees_size l.elements.now + 1

abbrev pub decreases-count_object : goal.decreases-count_object
decreases-count_object l = 2 * pairs_size l.members.now + 1

abbrev pub invariant-count_list-loop-i : goal.invariant-count_list-loop-i
invariant-count_list-loop-i l =
    joined l.counts (list_counts l.above l.path (elements_of l.elements) l.i (elements_of (drop l.i l.elements))) ≡ joined l.initial.counts (tree_counts l.above l.path (list (elements_of l.elements)))

abbrev pub invariant-count_object-loop-i : goal.invariant-count_object-loop-i
invariant-count_object-loop-i l =
    joined l.counts (object_counts l.above l.path (members_of l.members) (members_of (drop l.i l.members))) ≡ joined l.initial.counts (tree_counts l.above l.path (object (members_of l.members)))
