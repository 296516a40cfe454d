use Rattle.std.proofs.Common.{sym, arith}
use Rattle.json_text.proofs.PrintSteps.{length-no_point, length-some_point}
use Rattle.json_text.proofs.print.measure.fraction_len.Goals as goal

pub returns-then-fraction-eq0-clause-value : goal.returns-then-fraction-eq0-clause-value
returns-then-fraction-eq0-clause-value c = sym (length-no_point _ _ _ (omega arith) c.trimmed_fraction-fraction.ensures.digits)

pub returns-clause-value : goal.returns-clause-value
returns-clause-value c = sym (length-some_point _ _ _ (omega arith) c.trimmed_fraction-fraction.ensures.digits)
