use Rattle.std.proofs.Common.{◌≤◌, ◌+◌, length, arith, refl}
use Rattle.shred_cols.specs.Row.{id_of}
use Rattle.column_table.proofs.Nexts.{past_all}
use Rattle.column_table.proofs.table.is_past.Goals as goal

pub returns-in-Greater : goal.returns-in-Greater
returns-in-Greater g c = λ _.
    let end : length c.args.chunks.now ≤ c.args.at + 1 = omega arith in
    past_all c.args.id.now c.args.chunks.now c.args.at c.index-chunks-at.result c.last.ensures.0 c.last.result.now (id_of c.last.result.now.doc) c.requires.of c.requires.rise c.index-chunks-at.is end c.last.ensures.1 refl c.in-Greater.ensures.order
