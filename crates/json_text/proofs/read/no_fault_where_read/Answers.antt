use Rattle.json_text.proofs.AnswerSays.{none_where_read}
use Rattle.json_text.proofs.read.no_fault_where_read.Goals as goal

pub returns : goal.returns
returns c = none_where_read
