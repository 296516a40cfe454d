use Rattle.std.proofs.Common.{arith}
use Rattle.std.proofs.lemmas.Grind.{common_steps}
use Rattle.json_text.proofs.NumeralValues.{zero_exponent}
use Rattle.json_text.proofs.token.numeral.exponent_of.Goals as goal

pub returns-in-empty : goal.returns-in-empty
returns-in-empty c = zero_exponent c.args.bytes.now (grind (arith, common_steps))
