use Rattle.json_text.proofs.AnswerSays.{one}
use Rattle.json_text.proofs.read.one_fault.Goals as goal

pub returns : goal.returns
returns c = one
