use Rattle.std.specs.declared.cmp.Ordering.TheVariants.{Less, Greater}
use Rattle.shred_cols.specs.Row.{id_of}
use Rattle.column_table.proofs.Cuts.{begun}
use Rattle.column_table.proofs.chunk.compare.Goals as goal

pub returns-in-Less-clause-order : goal.returns-in-Less-clause-order
returns-in-Less-clause-order g c = begun Less c.args.id.now (id_of c.args.row.now.doc) c.args.begins.now c.begins.result.now c.beginnings_tell_order.ensures.less c.requires c.begins.ensures c.in-Less.ensures

pub returns-in-Greater-clause-order : goal.returns-in-Greater-clause-order
returns-in-Greater-clause-order g c = begun Greater c.args.id.now (id_of c.args.row.now.doc) c.args.begins.now c.begins.result.now c.beginnings_tell_order.ensures.greater c.requires c.begins.ensures c.in-Greater.ensures
