use Rattle.std.proofs.Common.{◌∙◌, ◌+◌, arith}
use Rattle.std.proofs.lemmas.List.{length-set}
use Rattle.shred_cols.proofs.Headed.{filled_more}
use Rattle.shred_cols.proofs.head.filled.Goals as goal

pub loop-i-preserved : goal.loop-i-preserved
loop-i-preserved c =
    record {
      bytes = filled_more c.loop-i.filled c.args.first c.args.bytes.now c.loop-i.i c.byte_at.result c.loop-i.invariant.len (omega arith) c.byte_at.ensures c.loop-i.invariant.bytes;
      len = length-set c.loop-i.filled (c.loop-i.i + 1) c.byte_at.result ∙ c.loop-i.invariant.len;
    }
