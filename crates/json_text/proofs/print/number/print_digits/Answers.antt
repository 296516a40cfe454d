use Rattle.std.proofs.Common.{rules, arith, ◌≤◌, length, ap, ◌∙◌}
use Rattle.json_text.proofs.PrintSteps.{one_first, behind_first}
use Rattle.json_text.proofs.print.number.print_digits.Goals as goal

pub slice_bounds-extend_from_slice-count : goal.slice_bounds-extend_from_slice-count
slice_bounds-extend_from_slice-count c = omega (arith, ap length (one_first c.args.fraction c.requires _ (c.as_bytes.ensures.value ∙ c.format-text.ensures.text)))

pub slice_bounds-extend_from_slice-start : goal.slice_bounds-extend_from_slice-start
slice_bounds-extend_from_slice-start c =
    let long : 1 ≤ length c.as_bytes.result.now = omega (arith, ap length (one_first c.args.fraction c.requires _ (c.as_bytes.ensures.value ∙ c.format-text.ensures.text))) in
    search (rules, long)

pub returns-clause-ok : goal.returns-clause-ok
returns-clause-ok c =
    let rest = behind_first _ _ (one_first c.args.fraction c.requires _ (c.as_bytes.ensures.value ∙ c.format-text.ensures.text)) in
    search (rules, rest)
