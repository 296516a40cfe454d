use Rattle.std.proofs.Common.{◌+◌, inl, inr, ⊎_elim, ap, ◌∙◌, drop, arith}
use Rattle.std.specs.Str.Parse.{digits_value, digits_value_after}
use Rattle.json_tree.specs.DigitLists.{next_digit}
use Rattle.json_text.proofs.CutNumbers.{stays_far}
use Rattle.json_text.proofs.token.numeral.cut_number.Goals as goal
use Rattle.json_text.proofs.token.numeral.cut_number.Goals.{then-n-lt-FAR, else-n-lt-FAR}

pub digits-preserved : goal.digits-preserved
digits-preserved c =
    let ds = c.args.digits.now in
    let i = c.digits.b-index in
    let next = next_digit ds i (omega arith) c.digits.invariant.left in
    elim c.if-n-lt-FAR.branch [
      | then-n-lt-FAR w ↦ record {
        left = next.1;
        small = omega (arith, next.0);
        same = ⊎_elim (λ e. inl (ap (λ n. digits_value_after 10 n (drop (i + 1) ds)) w.n-is ∙ next.2 c.digits.n ∙ e)) (λ k. absurd (omega arith)) c.digits.invariant.same;
      }
      | else-n-lt-FAR w ↦ record {
        left = next.1;
        small = omega arith;
        same = inr (let k = stays_far c.digits.n i (digits_value 10 ds) ds (omega arith) c.digits.invariant.same in (k.0, omega arith));
      }
    ]
