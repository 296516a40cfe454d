use Rattle.std.proofs.Common.{◌≡◌, drop, length, ◌+◌, ◌*◌, ◌==◌}
use Rattle.json_tree.specs.Tree.{list, object, elements_of, members_of, tree_size, trees_size, pairs_size}
use Rattle.json_tree.specs.View.{tree}
use Rattle.json_text.proofs.ListSteps.{rest_of_elements, rest_of_members}
use Rattle.json_text.specs.Print.{capped, text_of}
use Rattle.json_text.proofs.print.measure.+measure.Given as goal

abbrev pub decreases-text_len : goal.decreases-text_len
decreases-text_len l = 2 * tree_size (tree l.value.now)

abbrev pub decreases-elements_len : goal.decreases-elements_len
decreases-elements_len l = 2 * trees_size l.elements.now + 1

abbrev pub decreases-members_len : goal.decreases-members_len
decreases-members_len l = 2 * pairs_size l.members.now + 1

abbrev pub invariant-elements_len-loop-i : goal.invariant-elements_len-loop-i
invariant-elements_len-loop-i l = capped (l.len + (length (rest_of_elements (l.i == 0) (elements_of (drop l.i l.elements))) + 1)) ≡ capped (length (text_of (list (elements_of l.elements))))

abbrev pub invariant-members_len-loop-i : goal.invariant-members_len-loop-i
invariant-members_len-loop-i l = capped (l.len + (length (rest_of_members (l.i == 0) (members_of (drop l.i l.members))) + 1)) ≡ capped (length (text_of (object (members_of l.members))))
