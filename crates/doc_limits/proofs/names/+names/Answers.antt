use Rattle.std.proofs.Common.{arith, sym, ◌∙◌, ap}
use Rattle.json_tree.specs.View.{tree}
use Rattle.doc_limits.specs.Names.{is_plain, names_in, first_bad_name}
use Rattle.json_tree.specs.Sizes.{tree_falls, pair_falls}
use Rattle.doc_limits.proofs.Named.{element_found, element_passed, member_bad, member_found, member_passed, plain_where_none}
use Rattle.doc_limits.proofs.Dollars.{no_dollar_where_none}
use Rattle.doc_limits.proofs.names.+names.Goals as goal

pub elements_fault-names_fault-requires : goal.elements_fault-names_fault-requires
elements_fault-names_fault-requires t c = (omega (arith, tree_falls c.args.elements.now c.loop-i.i _ (sym c.in-Some.ensures)), tt)

pub members_fault-names_fault-requires : goal.members_fault-names_fault-requires
members_fault-names_fault-requires t c = (omega (arith, pair_falls c.args.members.now c.loop-i.i _ (sym c.in-Some.ensures)), tt)

pub elements_fault-returns-in-Some-names_fault : goal.elements_fault-returns-in-Some-names_fault
elements_fault-returns-in-Some-names_fault t c =
    element_found c.args.elements.now c.loop-i.i _ _ c.in-Some.ensures c.in-Some-names_fault.ensures.first ∙ c.loop-i.invariant

pub elements_fault-loop-i-preserved : goal.elements_fault-loop-i-preserved
elements_fault-loop-i-preserved t c =
    element_passed c.args.elements.now c.loop-i.i _ c.in-Some.ensures c.in_default-names_fault.ensures.first ∙ c.loop-i.invariant

pub members_fault-returns-then-not-is_plain : goal.members_fault-returns-then-not-is_plain
members_fault-returns-then-not-is_plain t c =
    member_bad c.args.members.now c.loop-i.i _ _ c.in-Some.ensures (sym (c.is_plain.ensures ∙ ap is_plain c.as_str.ensures) ∙ c.if-not-is_plain.true) ∙ c.loop-i.invariant

pub members_fault-returns-in-Some-names_fault : goal.members_fault-returns-in-Some-names_fault
members_fault-returns-in-Some-names_fault t c =
    member_found c.args.members.now c.loop-i.i _ _ _ c.in-Some.ensures (sym (c.is_plain.ensures ∙ ap is_plain c.as_str.ensures) ∙ c.if-not-is_plain.false) c.in-Some-names_fault.ensures.first ∙ c.loop-i.invariant

pub members_fault-loop-i-preserved : goal.members_fault-loop-i-preserved
members_fault-loop-i-preserved t c =
    member_passed c.args.members.now c.loop-i.i _ _ c.in-Some.ensures (sym (c.is_plain.ensures ∙ ap is_plain c.as_str.ensures) ∙ c.if-not-is_plain.false) c.in_default-names_fault.ensures.first ∙ c.loop-i.invariant

pub names_fault-returns-in-List-clause-plain : goal.names_fault-returns-in-List-clause-plain
names_fault-returns-in-List-clause-plain t c = plain_where_none c.elements_fault.result _ (names_in (tree c.args.value.now)) (c.elements_fault.ensures ∙ ap (λ v. first_bad_name (tree v)) (sym c.in-List.is))

pub names_fault-returns-in-List-clause-no_dollar : goal.names_fault-returns-in-List-clause-no_dollar
names_fault-returns-in-List-clause-no_dollar t c = no_dollar_where_none c.elements_fault.result (tree c.args.value.now) (names_fault-returns-in-List-clause-plain t c)

pub names_fault-returns-in-Object-clause-plain : goal.names_fault-returns-in-Object-clause-plain
names_fault-returns-in-Object-clause-plain t c = plain_where_none c.members_fault.result _ (names_in (tree c.args.value.now)) (c.members_fault.ensures ∙ ap (λ v. first_bad_name (tree v)) (sym c.in-Object.is))

pub names_fault-returns-in-Object-clause-no_dollar : goal.names_fault-returns-in-Object-clause-no_dollar
names_fault-returns-in-Object-clause-no_dollar t c = no_dollar_where_none c.members_fault.result (tree c.args.value.now) (names_fault-returns-in-Object-clause-plain t c)
