use Rattle.std.proofs.Common.{arith, refl}
use Rattle.shred_cols.proofs.Columned.{no_column, column_more, all_columns}
use Rattle.shred_cols.proofs.spread.add_columns.Goals as goal

pub loop-column-init : goal.loop-column-init
loop-column-init c = no_column c.args.entries.now.items c.args.places.now 1 (omega arith)

pub loop-column-preserved : goal.loop-column-preserved
loop-column-preserved c = column_more c.args.entries.now.items c.loop-column.entries.items c.add_places.new.entries.items c.args.places.now c.loop-column.column c.loop-column.invariant c.in_ok-add_places.ensures

pub returns : goal.returns
returns c = all_columns c.args.entries.now.items c.loop-column.entries.items c.args.places.now c.loop-column.column (omega arith) c.loop-column.invariant
