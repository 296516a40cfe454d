use Rattle.std.proofs.Common.{arith}
use Rattle.std.proofs.lemmas.Int.{ints}
use Rattle.std.proofs.lemmas.Grind.{common_steps}
use Rattle.json_text.proofs.NumeralValues.{minus_exponent}
use Rattle.json_text.proofs.token.numeral.signed_digits.Goals as goal

pub returns-in-Some : goal.returns-in-Some
returns-in-Some c = minus_exponent _ _ c.in-Some.n _ c.in-Some.ensures (grind (arith, common_steps)) (omega (arith, ints, c.in-Some.ensures.2.small))
