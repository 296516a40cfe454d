use Rattle.std.proofs.Common.{codes, decimal, ◌∙◌}
use Rattle.reply_env.proofs.Memory.{three_in_a_row, memory_text}
use Rattle.reply_env.proofs.fixed.no_memory_reply.Goals as goal

pub returns : goal.returns
returns c =
    three_in_a_row c.empty-text.result c.append.new.self c.append-2.new.self c.append-3.new.self
    (codes "{\"errors\":[{\"message\":\"Out of memory after ") (decimal c.args.accepted) c.as_bytes.result.now (codes " accepted writes\",\"errorCode\":\"OUT_OF_MEMORY\"}]}")
    c.empty-text.ensures c.append.ensures (c.as_bytes.ensures.value ∙ c.format.ensures.text) c.append-2.ensures c.append-3.ensures
    ∙ memory_text c.args.accepted c.ranges.accepted.fits
