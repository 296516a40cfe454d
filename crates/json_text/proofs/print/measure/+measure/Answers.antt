use Rattle.std.proofs.Common.{arith, ◌<◌, ◌+◌, ap, ◌∙◌, length}
use Rattle.json_tree.specs.Tree.{trees_size, pairs_size}
use Rattle.json_tree.specs.View.{tree, pair_of}
use Rattle.json_tree.specs.Sizes.{seen_at, value_in_falls, pair_in_falls}
use Rattle.json_text.specs.Print.{capped, string_text}
use Rattle.json_text.proofs.ListSteps.{elements_longer, members_longer}
use Rattle.json_text.proofs.print.measure.+measure.Goals as goal

pub elements_len-text_len-requires : goal.elements_len-text_len-requires
elements_len-text_len-requires t c =
    let values = c.as_slice-values.result.now in
    let within : c.loop-i.i < length values = omega arith in
    (omega (arith, value_in_falls values c.loop-i.i c.index-values-i.result within c.index-values-i.is, ap trees_size c.as_slice-values.ensures), tt)

pub elements_len-loop-i-preserved : goal.elements_len-loop-i-preserved
elements_len-loop-i-preserved t c =
    let values = c.as_slice-values.result.now in
    let within : c.loop-i.i < length values = omega arith in
    let here = seen_at tree values c.args.elements.now c.loop-i.i c.index-values-i.result c.as_slice-values.ensures within c.index-values-i.is in
    elements_longer c.args.elements.now c.loop-i.i _ c.loop-i.len c.plus-len.result _ here (c.plus-len.ensures ∙ ap (λ n. capped (c.loop-i.len + n)) c.separator_len.ensures)
    (c.plus-len-in-loop-i.ensures ∙ ap (λ n. capped (c.plus-len.result + n)) c.text_len.ensures)
    ∙ c.loop-i.invariant

pub members_len-text_len-requires : goal.members_len-text_len-requires
members_len-text_len-requires t c =
    let pairs = c.as_slice-pairs.result.now in
    let within : c.loop-i.i < length pairs = omega arith in
    (omega (arith, pair_in_falls pairs c.loop-i.i c.index-pairs-i.result within c.index-pairs-i.is, ap pairs_size c.as_slice-pairs.ensures), tt)

pub members_len-loop-i-preserved : goal.members_len-loop-i-preserved
members_len-loop-i-preserved t c =
    let pairs = c.as_slice-pairs.result.now in
    let within : c.loop-i.i < length pairs = omega arith in
    let here = seen_at pair_of pairs c.args.members.now c.loop-i.i c.index-pairs-i.result c.as_slice-pairs.ensures within c.index-pairs-i.is in
    members_longer c.args.members.now c.loop-i.i _ _ c.loop-i.len c.plus-len.result c.plus-len-in-loop-i.result c.plus-len-in-loop-i-2.result _ here
    (c.plus-len.ensures ∙ ap (λ n. capped (c.loop-i.len + n)) c.separator_len.ensures)
    (c.plus-len-in-loop-i.ensures ∙ ap (λ n. capped (c.plus-len.result + n)) (c.string_len.ensures ∙ ap (λ s. capped (length (string_text s))) c.as_str.ensures)) c.plus-len-in-loop-i-2.ensures
    (c.plus-len-in-loop-i-3.ensures ∙ ap (λ n. capped (c.plus-len-in-loop-i-2.result + n)) c.text_len.ensures)
    ∙ c.loop-i.invariant
