use Rattle.std.proofs.Common.{arith}
use Rattle.json_text.proofs.PrintSteps.{zero_padded}
use Rattle.json_text.proofs.units.trimmed_fraction.Goals as goal

pub returns-then-n-eq0-clause-digits : goal.returns-then-n-eq0-clause-digits
returns-then-n-eq0-clause-digits c = zero_padded c.args.n 0 (omega arith)
