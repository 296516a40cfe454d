use Rattle.std.proofs.Common.{sym, arith, rules, subst}
use Rattle.json_tree.specs.View.{tree}
use Rattle.json_text.specs.Machine.{first_element, after_element}
use Rattle.json_text.specs.Ahead.{GoesOn}
use Rattle.json_text.proofs.Ahead.{comma_shorter, element_more, element_next, member_is, member_next, put_some, from_front, list_opens, list_closes, list_empty, object_opens, object_closes, object_empty, opening_brace, opening_bracket, then_some, colon_first, comma_first, list_end_first, object_end_first}
use Rattle.json_text.proofs.read.quick.+quick.Goals as goal

pub elements_of-elements-smaller : goal.elements_of-elements-smaller
elements_of-elements-smaller t c =
    let value = c.in_ok-value.ensures in
    omega (arith, value.shorter, comma_shorter c.in_ok-value.after.now c.in-Some.next.now (comma_first _ _ c.in-Some.ensures))

pub elements_of-elements-preserved : goal.elements_of-elements-preserved
elements_of-elements-preserved t c = (search rules, element_next c.elements.elements _ c.elements.invariant.1 c.in_ok-value.ensures c.in-Ok.ensures.ok (comma_first _ _ c.in-Some.ensures))

pub elements_of-returns-in-None : goal.elements_of-returns-in-None
elements_of-returns-in-None t c = subst (λ vs. GoesOn c.args.levels first_element c.args.text.now (after_element vs) c.in_ok-value.after.now) (sym c.fit.ensures) (element_more c.elements.elements _ c.elements.invariant.1 c.in_ok-value.ensures c.in-Ok.ensures.ok)

pub list_of-returns-in-Some : goal.list_of-returns-in-Some
list_of-returns-in-Some t c = rw c.new.ensures (list_empty _ _ _ (list_end_first _ _ c.in-Some.ensures))

pub list_of-returns : goal.list_of-returns
list_of-returns t c = list_closes _ _ _ _ _ c.in_ok-elements.ensures (list_end_first _ _ c.in_ok-rest.ensures)

pub members_of-members-smaller : goal.members_of-members-smaller
members_of-members-smaller t c =
    let member = c.in_ok-after.ensures.goes in
    omega (arith, member.shorter, comma_shorter c.in_ok-after.after.now c.in-Some.next.now (comma_first _ _ c.in-Some.ensures))

pub members_of-members-preserved : goal.members_of-members-preserved
members_of-members-preserved t c = (search rules, member_next c.members.members c.take_member.new.members c.members.invariant.1 c.in_ok-after.ensures.goes c.in_ok-after.ensures.more (comma_first _ _ c.in-Some.ensures))

pub object_of-returns-in-Some : goal.object_of-returns-in-Some
object_of-returns-in-Some t c = object_empty _ _ _ _ (rw c.new.ensures at c.object_value.ensures) (object_end_first _ _ c.in-Some.ensures)

pub object_of-returns : goal.object_of-returns
object_of-returns t c = object_closes _ _ _ _ _ _ c.object_value-2.ensures c.in_ok-members.ensures (object_end_first _ _ c.in_ok-rest.ensures)

pub take_member-returns-clause-goes : goal.take_member-returns-clause-goes
take_member-returns-clause-goes t c = member_is _ _ _ _ _ _ _ _ _ c.in_ok-name.ensures (colon_first _ _ c.in_ok-wanting.ensures) c.in_ok-value.ensures c.in-Ok.ensures.ok

pub take_member-returns-clause-more : goal.take_member-returns-clause-more
take_member-returns-clause-more t c = rw c.in-Ok.ensures.ok (put_some c.in_ok-name.name (tree c.in_ok-value.value) c.args.members.now)

pub value_of-returns-in-Ascii-eq123-default : goal.value_of-returns-in-Ascii-eq123-default
value_of-returns-in-Ascii-eq123-default t c =
    let first = opening_brace c.args.text.now c.after_blanks-from.result.now c.in-Ascii-eq123-default.rest.now c.in-Ascii-eq123-default.field-0 c.after_blanks-from.ensures c.in-Ascii-eq123-default.ensures.1 c.in-Ascii-eq123-default.field-0-test in
    then_some c.object_of.result (λ p h. object_opens _ _ _ _ _ c.if-levels-gt0.true first h) c.object_of.ensures

pub value_of-returns-in-Ascii-eq91-default : goal.value_of-returns-in-Ascii-eq91-default
value_of-returns-in-Ascii-eq91-default t c =
    let first = opening_bracket c.args.text.now c.after_blanks-from.result.now c.in-Ascii-eq91-default.rest.now c.in-Ascii-eq91-default.field-0 c.after_blanks-from.ensures c.in-Ascii-eq91-default.ensures.1 c.in-Ascii-eq91-default.field-0-test in
    then_some c.list_of.result (λ p h. list_opens _ _ _ _ _ c.if-levels-gt0-2.true first h) c.list_of.ensures

pub value_of-returns-in_default : goal.value_of-returns-in_default
value_of-returns-in_default t c = then_some c.scalar_of.result (λ p h. from_front _ _ _ _ _ c.after_blanks-from.ensures h) c.scalar_of.ensures
