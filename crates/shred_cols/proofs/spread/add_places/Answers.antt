use Rattle.std.proofs.Common.{arith, refl, length}
use Rattle.std.proofs.lemmas.Option.{slice_get_read}
use Rattle.shred_cols.specs.Adds.{OfColumn}
use Rattle.shred_cols.proofs.Adding.{each_more, each_all}
use Rattle.shred_cols.proofs.spread.add_places.Goals as goal

pub loop-i-preserved : goal.loop-i-preserved
loop-i-preserved c =
    each_more c.args.entries.now.items c.loop-i.entries.items c.add_column.new.entries.items (OfColumn c.args.column) c.args.places.now c.loop-i.i c.index-places-i.result
    (slice_get_read c.args.places.now (length c.args.places.now) c.loop-i.i c.index-places-i.result refl (omega arith) c.index-places-i.is) c.loop-i.invariant c.in_ok-add_column.ensures

pub returns : goal.returns
returns c = each_all c.args.entries.now.items c.loop-i.entries.items (OfColumn c.args.column) c.args.places.now c.loop-i.i (omega arith) c.loop-i.invariant
