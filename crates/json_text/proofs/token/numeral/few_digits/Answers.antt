use Rattle.std.proofs.Common.{◌≡◌, get_or, true, arith, rules}
use Rattle.std.specs.Char.{is_ascii_digit}
use Rattle.json_text.proofs.ShortNumeral.{front_more, front_fits}
use Rattle.json_text.proofs.token.numeral.few_digits.Goals as goal

pub overflow_mul-n : goal.overflow_mul-n
overflow_mul-n c = omega (arith, front_fits c.args.bytes.now c.digits.n c.digits.len c.digits.invariant (omega arith))

pub overflow_add-n : goal.overflow_add-n
overflow_add-n c = omega (arith, front_fits c.args.bytes.now c.digits.n c.digits.len c.digits.invariant (omega arith))

pub digits-preserved : goal.digits-preserved
digits-preserved c =
    let digit : is_ascii_digit (get_or c.args.bytes.now c.digits.len 0) ≡ true = search rules in
    front_more c.args.bytes.now c.digits.n c.digits.len c.digits.invariant (omega arith) (omega arith) digit
