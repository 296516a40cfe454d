use Rattle.std.proofs.Common.{ap, ◌∙◌, ◌+◌, drop, List}
use Rattle.shred_cols.specs.Row.{Version}
use Rattle.column_table.proofs.Spots.{after_here, after_before}
use Rattle.column_table.proofs.chunk.Chunk.after.Goals as goal

pub returns-in-Here : goal.returns-in-Here
returns-in-Here g c =
    rw (← c.self.view_is) (after_here c.args.id.now c.self.inside.rows.items c.rows_from.result.now c.in-Here.place (c.rows_from.ensures ∙ ap (λ (l : List Version). drop (c.in-Here.place + 1) l) c.deref-in-Here.ensures.value) (rw c.deref.ensures.value at c.in-Here.ensures.spot))

pub returns-in-Before : goal.returns-in-Before
returns-in-Before g c =
    rw (← c.self.view_is) (after_before c.args.id.now c.self.inside.rows.items c.rows_from-in-Before.result.now c.in-Before.place (c.rows_from-in-Before.ensures ∙ ap (λ (l : List Version). drop c.in-Before.place l) c.deref-in-Before.ensures.value) (rw c.deref.ensures.value at c.in-Before.ensures.spot))
