use Rattle.std.proofs.Common.{◌∙◌, sym}
use Rattle.json_text.proofs.Ahead.{whole_value}
use Rattle.json_text.proofs.read.quick.whole_value_of.Goals as goal

pub returns-in-End : goal.returns-in-End
returns-in-End c = whole_value _ _ _ c.in_ok-value.ensures (sym c.after_blanks.ensures ∙ c.in-End.ensures)
