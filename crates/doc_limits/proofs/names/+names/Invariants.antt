use Rattle.std.proofs.Common.{◌≡◌, drop, ◌+◌, ◌*◌}
use Rattle.json_tree.specs.Tree.{list, object, elements_of, members_of, tree_size, trees_size, pairs_size}
use Rattle.json_tree.specs.View.{tree}
use Rattle.doc_limits.specs.Names.{names_in_elements, names_in_members, first_bad_name}
use Rattle.doc_limits.proofs.Named.{first_bad}
use Rattle.doc_limits.proofs.names.+names.Given as goal

abbrev pub decreases-names_fault : goal.decreases-names_fault
decreases-names_fault l = 2 * tree_size (tree l.value.now)

abbrev pub decreases-elements_fault : goal.decreases-elements_fault
decreases-elements_fault l = 2 * trees_size l.elements.now + 1

abbrev pub decreases-members_fault : goal.decreases-members_fault
decreases-members_fault l = 2 * pairs_size l.members.now + 1

abbrev pub invariant-elements_fault-loop-i : goal.invariant-elements_fault-loop-i
invariant-elements_fault-loop-i l = first_bad (names_in_elements (elements_of (drop l.i l.elements))) ≡ first_bad_name (list (elements_of l.elements))

abbrev pub invariant-members_fault-loop-i : goal.invariant-members_fault-loop-i
invariant-members_fault-loop-i l = first_bad (names_in_members (members_of (drop l.i l.members))) ≡ first_bad_name (object (members_of l.members))
