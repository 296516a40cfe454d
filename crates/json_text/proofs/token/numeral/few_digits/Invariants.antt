use Rattle.std.proofs.Common.{◌-◌, length}
use Rattle.json_text.specs.ShortNumeral.{BeginsWithDigits}
use Rattle.json_text.proofs.token.numeral.few_digits.Given as goal

abbrev pub invariant-digits : goal.invariant-digits
invariant-digits l = BeginsWithDigits l.bytes l.n l.len

abbrev pub decreases-digits : goal.decreases-digits
decreases-digits l = length l.bytes - l.len
