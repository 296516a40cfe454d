use Rattle.std.proofs.Common.{arith, sym, ◌∙◌}
use Rattle.json_tree.specs.Sizes.{tree_falls, pair_falls}
use Rattle.doc_limits.proofs.Counted.{list_more, object_more, list_end, object_end}
use Rattle.doc_limits.proofs.counts.+count.Goals as goal

pub count_list-count-requires : goal.count_list-count-requires
count_list-count-requires t c = (omega (arith, tree_falls c.args.elements.now c.loop-i.i _ (sym c.in-Some.ensures)), tt)

pub count_list-loop-i-preserved : goal.count_list-loop-i-preserved
count_list-loop-i-preserved t c =
    list_more c.args.elements.now c.loop-i.i _ c.args.above c.args.path _ c.longer.result _ c.loop-i.counts c.count.new.counts c.in-Some.ensures c.plus-level.ensures c.decimal_len.ensures c.longer.ensures c.count.ensures
    ∙ c.loop-i.invariant

pub count_list-returns : goal.count_list-returns
count_list-returns t c =
    list_end c.args.elements.now c.args.above c.args.path c.loop-i.i _ c.len.result c.at-own.result c.loop-i.counts c.join.new.self (omega arith) c.plus-level.ensures c.at-own.ensures c.len.ensures c.join.ensures
    ∙ c.loop-i.invariant

pub count_object-count-requires : goal.count_object-count-requires
count_object-count-requires t c = (omega (arith, pair_falls c.args.members.now c.loop-i.i _ (sym c.in-Some.ensures)), tt)

pub count_object-loop-i-preserved : goal.count_object-loop-i-preserved
count_object-loop-i-preserved t c =
    object_more c.args.members.now c.loop-i.i _ _ c.args.above c.args.path _ c.longer.result c.as_str.result.now c.loop-i.counts c.count_name.new.counts c.count.new.counts c.in-Some.ensures c.plus-level.ensures
    c.as_str.ensures c.longer.ensures c.count_name.ensures c.count.ensures
    ∙ c.loop-i.invariant

pub count_object-returns : goal.count_object-returns
count_object-returns t c =
    object_end c.args.members.now c.args.above c.args.path c.loop-i.i _ c.len.result c.at-own.result c.loop-i.counts c.join.new.self (omega arith) c.plus-level.ensures c.at-own.ensures c.len.ensures.value c.join.ensures
    ∙ c.loop-i.invariant
