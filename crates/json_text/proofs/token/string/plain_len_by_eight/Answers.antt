use Rattle.std.proofs.Common.{◌+◌, ◌≤◌, length, arith}
use Rattle.json_text.proofs.Blocks.{block_passes, block_stops}
use Rattle.json_text.proofs.token.string.plain_len_by_eight.Goals as goal

pub returns-then-marked-ne0 : goal.returns-then-marked-ne0
returns-then-marked-ne0 c =
    let room : c.args.from + 8 ≤ length c.args.bytes.now = omega arith in
    omega (arith, block_stops c.args.bytes.now c.args.from 8 c.marks_of_eight-marked.result (omega arith) room c.marks_of_eight-marked.ensures (omega arith))

pub returns : goal.returns
returns c =
    let room : c.args.from + 8 ≤ length c.args.bytes.now = omega arith in
    omega (arith, block_passes c.args.bytes.now c.args.from 8 c.marks_of_eight-marked.result (omega arith) room c.marks_of_eight-marked.ensures (omega arith))
