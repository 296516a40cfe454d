use Rattle.json_text.proofs.NumeralParts.{numerals}
use Rattle.json_text.proofs.laws.numerals_are_written_so.Goals as goal

pub returns : goal.returns
returns c = numerals
