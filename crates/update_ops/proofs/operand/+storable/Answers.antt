use Rattle.std.proofs.Common.{ap, arith, sym}
use Rattle.json_tree.specs.View.{tree}
use Rattle.json_tree.specs.Sizes.{tree_falls, pair_falls}
use Rattle.update_ops.proofs.Walks.{list_size, object_size}
use Rattle.update_ops.specs.Forms.{is_storable}
use Rattle.update_ops.proofs.Walks.{all_fails, all_past, storable_list, storable_object, pair_fails, pair_fails_inside, pair_passes}
use Rattle.update_ops.proofs.operand.+storable.Goals as goal

pub all_storable-is_storable-requires : goal.all_storable-is_storable-requires
all_storable-is_storable-requires t c = (omega (arith, tree_falls c.args.items.now c.loop-i.i _ (sym c.in-Some.ensures)), tt)

pub all_storable-returns-then-not-is_storable : goal.all_storable-returns-then-not-is_storable
all_storable-returns-then-not-is_storable t c = all_fails is_storable c.args.items.now c.loop-i.i _ _ c.in-Some.ensures (sym c.if-not-is_storable.ensures) c.loop-i.invariant

pub all_storable-loop-i-preserved : goal.all_storable-loop-i-preserved
all_storable-loop-i-preserved t c = all_past is_storable c.args.items.now c.loop-i.i _ _ c.in-Some.ensures (sym c.if-not-is_storable.ensures) c.loop-i.invariant

pub is_storable-all_storable-requires : goal.is_storable-all_storable-requires
is_storable-all_storable-requires t c = (omega (arith, list_size (tree c.args.value.now) c.in-List.items (ap tree c.in-List.is)), tt)

pub is_storable-members_storable-requires : goal.is_storable-members_storable-requires
is_storable-members_storable-requires t c = (omega (arith, object_size (tree c.args.value.now) c.in-Object.members (ap tree c.in-Object.is)), tt)

pub is_storable-returns-in-List : goal.is_storable-returns-in-List
is_storable-returns-in-List t c = storable_list (tree c.args.value.now) c.in-List.items c.all_storable.result (ap tree c.in-List.is) c.all_storable.ensures

pub is_storable-returns-in-Object : goal.is_storable-returns-in-Object
is_storable-returns-in-Object t c = storable_object (tree c.args.value.now) c.in-Object.members c.members_storable.result (ap tree c.in-Object.is) c.members_storable.ensures

pub members_storable-returns-then-not-is_storable_name : goal.members_storable-returns-then-not-is_storable_name
members_storable-returns-then-not-is_storable_name t c =
    pair_fails c.args.members.now c.loop-i.i c.in-Some.name.now (tree c.in-Some.value.now) _ c.in-Some.ensures (sym (rw c.as_str.ensures at c.if-not-is_storable_name.ensures)) c.loop-i.invariant

pub members_storable-is_storable-requires : goal.members_storable-is_storable-requires
members_storable-is_storable-requires t c = (omega (arith, pair_falls c.args.members.now c.loop-i.i _ (sym c.in-Some.ensures)), tt)

pub members_storable-returns-then-not-is_storable : goal.members_storable-returns-then-not-is_storable
members_storable-returns-then-not-is_storable t c =
    pair_fails_inside c.args.members.now c.loop-i.i c.in-Some.name.now (tree c.in-Some.value.now) _ c.in-Some.ensures (sym c.if-not-is_storable.ensures) c.loop-i.invariant

pub members_storable-loop-i-preserved : goal.members_storable-loop-i-preserved
members_storable-loop-i-preserved t c =
    pair_passes c.args.members.now c.loop-i.i c.in-Some.name.now (tree c.in-Some.value.now) _ c.in-Some.ensures (sym (rw c.as_str.ensures at c.if-not-is_storable_name.ensures)) (sym c.if-not-is_storable.ensures) c.loop-i.invariant
