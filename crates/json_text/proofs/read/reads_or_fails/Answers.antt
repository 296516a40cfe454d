use Rattle.json_text.proofs.Decided.{decided}
use Rattle.json_text.proofs.read.reads_or_fails.Goals as goal

pub returns : goal.returns
returns c = decided
