use Rattle.std.proofs.Common.{◌+◌, ◌-◌, ◌*◌, ◌∙◌, get_or, arith}
use Rattle.json_tree.specs.DigitLists.{next_digit}
use Rattle.json_tree.proofs.digits.with_digits.Goals as goal

pub digits-preserved : goal.digits-preserved
digits-preserved c =
    let next = next_digit c.args.digits.now c.digits.b-index (omega arith) c.digits.invariant.left in record {
      left = next.1;
      fits = c.with_digit-r.ensures.fits;
      zeros = omega (arith, c.with_digit-r.ensures.zeros, c.digits.invariant.zeros);
      same = λ v d. let w = c.digits.invariant.same v d in (w.0 * 10 + (get_or c.args.digits.now c.digits.b-index 0 - 48), c.with_digit-r.ensures.value w.0 w.1, next.2 w.0 ∙ w.2);
    }
