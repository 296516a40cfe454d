use Rattle.std.proofs.Common.{◌⊎◌, inl, inr, arith, ◌<◌, ◌≤◌, ◌^◌}
use Rattle.json_tree.proofs.Roundings.{digit_lost}
use Rattle.json_tree.proofs.digits.with_digit.Goals as goal
use Rattle.json_tree.proofs.digits.with_digit.Goals.{else-r-eq0-via-then-r-eq0+else-r, else-r-eq0-via-else-r-eq0}

pub returns-clause-value : goal.returns-clause-value
returns-clause-value c v d =
    let full : (0 < c.args.r.zeros) ⊎ (10 ^ 37 ≤ c.args.r.coefficient) = elim c.else-r-eq0.branch [ else-r-eq0-via-then-r-eq0+else-r w ↦ inr (omega arith) | else-r-eq0-via-else-r-eq0 w ↦ inl (omega arith) ] in
    digit_lost v c.args.digit c.args.r d c.requires.digit full
