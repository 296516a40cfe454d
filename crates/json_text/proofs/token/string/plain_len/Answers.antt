use Rattle.std.proofs.Common.{◌+◌, ◌≤◌, length, arith}
use Rattle.json_text.proofs.Blocks.{block_passes, block_stops}
use Rattle.json_text.proofs.token.string.plain_len.Goals as goal

pub wide-preserved : goal.wide-preserved
wide-preserved c =
    let room : c.wide.len + 16 ≤ length c.args.bytes.now = omega (arith, c.wide.invariant.0) in
    (omega arith, omega (arith, c.wide.invariant.1, block_passes c.args.bytes.now c.wide.len 16 c.marks-marked.result (omega arith) room c.marks-marked.ensures (omega arith)))

pub returns-then-marked-ne0 : goal.returns-then-marked-ne0
returns-then-marked-ne0 c =
    let room : c.wide.len + 16 ≤ length c.args.bytes.now = omega (arith, c.wide.invariant.0) in
    let run = block_stops c.args.bytes.now c.wide.len 16 c.marks-marked.result (omega arith) room c.marks-marked.ensures (omega arith) in
    omega (arith, c.wide.invariant.1, run)
