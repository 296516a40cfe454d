use Rattle.std.proofs.Common.{◌+◌, ◌*◌, length}
use denote.Text.{Utf8}
use denote.Shadow.{shadow}
use Rattle.json_text.specs.Machine.{first_element, first_name}
use Rattle.json_text.specs.Ahead.{GoesOn, next_element_place, next_member_place}
use Rattle.json_text.proofs.read.quick.+quick.Given as goal

abbrev pub decreases-value_of : goal.decreases-value_of
decreases-value_of l = 5 * l.levels + 1

abbrev pub decreases-take_member : goal.decreases-take_member
decreases-take_member l = 5 * l.levels + 2

abbrev pub decreases-elements_of : goal.decreases-elements_of
decreases-elements_of l = 5 * l.levels + 3

abbrev pub decreases-members_of : goal.decreases-members_of
decreases-members_of l = 5 * l.levels + 3

abbrev pub decreases-list_of : goal.decreases-list_of
decreases-list_of l = 5 * l.levels + 4

abbrev pub decreases-object_of : goal.decreases-object_of
decreases-object_of l = 5 * l.levels + 4

abbrev pub invariant-elements_of-elements : goal.invariant-elements_of-elements
invariant-elements_of-elements l = shadow (Utf8 l.rest) × GoesOn l.levels first_element l.text (next_element_place l.elements) l.rest

abbrev pub decreases-elements_of-elements : goal.decreases-elements_of-elements
decreases-elements_of-elements l = length l.rest

abbrev pub invariant-members_of-members : goal.invariant-members_of-members
invariant-members_of-members l = shadow (Utf8 l.rest) × GoesOn l.levels first_name l.text (next_member_place l.members) l.rest

abbrev pub decreases-members_of-members : goal.decreases-members_of-members
decreases-members_of-members l = length l.rest
