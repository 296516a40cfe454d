use Rattle.std.proofs.Common.{◌<◌, length, rules, arith, ap}
use Rattle.json_tree.specs.Tree.{trees_size, pairs_size}
use Rattle.json_tree.specs.View.{tree, pair_of}
use Rattle.json_tree.specs.Sizes.{seen_at, value_in_falls, pair_in_falls}
use Rattle.json_text.proofs.ListSteps.{elements_more, members_more}
use Rattle.json_text.proofs.Kept.{extends-more, extends-on, extends-two, extends-four}
use Rattle.json_text.proofs.print.+print.Goals as goal

pub print_elements-print_tree-requires : goal.print_elements-print_tree-requires
print_elements-print_tree-requires t c =
    let values = c.as_slice-values.result.now in
    let within : c.loop-i.i < length values = omega arith in
    (omega (arith, value_in_falls values c.loop-i.i c.index-values-i.result within c.index-values-i.is, ap trees_size c.as_slice-values.ensures), tt)

pub print_elements-loop-i-preserved : goal.print_elements-loop-i-preserved
print_elements-loop-i-preserved t c =
    let values = c.as_slice-values.result.now in
    let within : c.loop-i.i < length values = omega arith in
    let here = seen_at tree values c.args.elements.now c.loop-i.i c.index-values-i.result c.as_slice-values.ensures within c.index-values-i.is in
    record {
      kept = extends-two _ _ _ _ _ _ c.loop-i.invariant.kept c.in_ok-print_separator.ensures.ok c.in_ok-print_tree.ensures.ok;
      written = elements_more c.args.elements.now c.loop-i.i _ _ _ _ _ _ here c.loop-i.invariant.written c.in_ok-print_separator.ensures.ok c.in_ok-print_tree.ensures.ok;
    }

pub print_members-print_tree-requires : goal.print_members-print_tree-requires
print_members-print_tree-requires t c =
    let pairs = c.as_slice-pairs.result.now in
    let within : c.loop-i.i < length pairs = omega arith in
    (omega (arith, pair_in_falls pairs c.loop-i.i c.index-pairs-i.result within c.index-pairs-i.is, ap pairs_size c.as_slice-pairs.ensures), tt)

pub print_members-loop-i-preserved : goal.print_members-loop-i-preserved
print_members-loop-i-preserved t c =
    let pairs = c.as_slice-pairs.result.now in
    let within : c.loop-i.i < length pairs = omega arith in
    let here = seen_at pair_of pairs c.args.members.now c.loop-i.i c.index-pairs-i.result c.as_slice-pairs.ensures within c.index-pairs-i.is in
    record {
      kept = extends-four _ _ _ _ _ _ _ _ _ _ c.loop-i.invariant.kept c.in_ok-print_separator.ensures.ok c.in_ok-print_string.ensures.ok c.in_ok-push-2.ensures.items c.in_ok-print_tree.ensures.ok;
      written = members_more c.args.members.now c.loop-i.i _ _ _ _ _ _ _ _ _ here c.loop-i.invariant.written c.in_ok-print_separator.ensures.ok (rw c.as_str.ensures at c.in_ok-print_string.ensures.ok) c.in_ok-push-2.ensures.items c.in_ok-print_tree.ensures.ok;
    }

pub print_members-returns-in_err-print_tree-clause-kept : goal.print_members-returns-in_err-print_tree-clause-kept
print_members-returns-in_err-print_tree-clause-kept t c =
    let kept = extends-on _ _ _ (extends-two _ _ _ _ _ _ (extends-on _ _ _ c.loop-i.invariant.kept (extends-more _ _ _ c.in_ok-print_separator.ensures.ok)) c.in_ok-print_string.ensures.ok c.in_ok-push-2.ensures.items) c.in_err-print_tree.ensures.kept in
    search (rules, kept)
