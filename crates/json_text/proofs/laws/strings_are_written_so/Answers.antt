use Rattle.json_text.proofs.ContentPieces.{contents}
use Rattle.json_text.proofs.laws.strings_are_written_so.Goals as goal

pub returns : goal.returns
returns c = contents
