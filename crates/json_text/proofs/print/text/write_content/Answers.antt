use Rattle.std.proofs.Common.{rules, ◌∙◌, ◌-◌, ap, arith, length, get_or, take, drop}
use Rattle.std.proofs.lemmas.List.Sums.{prefix_len-le-length}
use Rattle.json_text.specs.Unescaped.{is_plain}
use Rattle.json_text.proofs.PrintSteps.{content_ends, content_more, split_first, nothing_left}
use Rattle.json_text.proofs.Kept.{extends-more, extends-on, extends-two}
use Rattle.json_text.proofs.print.text.write_content.Goals as goal

pub split_at-requires : goal.split_at-requires
split_at-requires c = omega (arith, c.plain_len.ensures, prefix_len-le-length is_plain c.parts.rest.now)

pub returns-in-empty-clause-ok : goal.returns-in-empty-clause-ok
returns-in-empty-clause-ok c =
    content_ends c.parts.rest.now c.split_at.result.0.now c.split_at.result.1.now c.parts.out.items _ _ (c.split_at.ensures.front ∙ ap (λ n. take n c.parts.rest.now) c.plain_len.ensures)
    (c.split_at.ensures.back ∙ ap (λ n. drop n c.parts.rest.now) c.plain_len.ensures) (nothing_left _ c.in-empty.len_below) c.parts.invariant.written c.in_ok-extend_from_slice.ensures.items

pub parts-preserved : goal.parts-preserved
parts-preserved c = record {
  kept = extends-two _ _ _ _ _ _ c.parts.invariant.kept c.in_ok-extend_from_slice.ensures.items c.in_ok-print_byte-in-len1-up.ensures.ok;
  written = content_more c.parts.rest.now c.split_at.result.0.now c.split_at.result.1.now (take (length c.split_at.result.1.now - 1) (drop 1 c.split_at.result.1.now)) c.parts.out.items _ _ _
      (get_or c.split_at.result.1.now 0 0) (c.split_at.ensures.front ∙ ap (λ n. take n c.parts.rest.now) c.plain_len.ensures)
      (c.split_at.ensures.back ∙ ap (λ n. drop n c.parts.rest.now) c.plain_len.ensures) (split_first _ c.in-len1-up.len_at_least) c.parts.invariant.written c.in_ok-extend_from_slice.ensures.items
      c.in_ok-print_byte-in-len1-up.ensures.ok;
}

pub returns-in_err-print_byte-in-len1-up-clause-kept : goal.returns-in_err-print_byte-in-len1-up-clause-kept
returns-in_err-print_byte-in-len1-up-clause-kept c =
    let kept = extends-on _ _ _ (extends-on _ _ _ c.parts.invariant.kept (extends-more _ _ _ c.in_ok-extend_from_slice.ensures.items)) c.in_err-print_byte-in-len1-up.ensures.kept in
    search (rules, kept)
