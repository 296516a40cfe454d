use Rattle.std.proofs.Common.{Some, sym, ap, ◌∙◌, ◌++◌, ◌+◌, drop, List}
use Rattle.shred_cols.specs.Rows.{Rows}
use Rattle.column_table.specs.Spot.{joined}
use Rattle.column_table.specs.After.{rows_after}
use Rattle.column_table.proofs.Chunks.{sorted_chunk}
use Rattle.column_table.proofs.Nexts.{rest_after, filled_from}
use Rattle.column_table.proofs.table.after_from.Goals as goal

pub after-here-requires : goal.after-here-requires
after-here-requires g c = record { begins = c.beginning-begins.ensures; rise = sorted_chunk c.args.chunks.now c.chunk_of-at.result c.index-chunks-at.result c.chunk_of-at.ensures.chunk.within c.index-chunks-at.is c.requires.rise }

pub returns : goal.returns
returns g c =
    c.new-2.ensures.rows
    ∙ ap (λ (rows : Rows). rows ++ joined c.chunks_from.result.now) c.after-here.ensures
    ∙ ap (λ (cs : List Rows). rows_after (Some c.args.id.now) c.index-chunks-at.result ++ joined cs) c.chunks_from.ensures
    ∙ sym (rest_after c.args.id.now c.args.chunks.now c.chunk_of-at.result c.chunk_of-at.ensures.chunk c.index-chunks-at.result c.index-chunks-at.is)

pub new-requires-2 : goal.new-requires-2
new-requires-2 g c = record { filled = filled_from c.args.chunks.now c.chunks_from.result.now (c.chunk_of-at.result + 1) c.chunks_from.ensures c.requires.filled }
