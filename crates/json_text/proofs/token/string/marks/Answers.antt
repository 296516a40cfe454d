use Rattle.std.proofs.Common.{arith}
use Rattle.json_text.proofs.Blocks.{block_marks}
use Rattle.json_text.proofs.token.string.marks.Goals as goal

pub returns : goal.returns
returns c = block_marks 16 c.args.block c.requires (omega arith)
