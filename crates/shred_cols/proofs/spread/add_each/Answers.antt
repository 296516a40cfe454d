use Rattle.std.proofs.Common.{arith, refl, length}
use Rattle.std.proofs.lemmas.Option.{slice_get_read}
use Rattle.shred_cols.proofs.Adding.{kept_none, kept_more, kept_all}
use Rattle.shred_cols.proofs.spread.add_each.Goals as goal

pub loop-i-preserved : goal.loop-i-preserved
loop-i-preserved c =
    kept_more c.args.entries.now.items c.loop-i.entries.items c.add_has.new.entries.items c.args.path.now c.args.inside.now c.loop-i.i c.index-inside-i.result
    (slice_get_read c.args.inside.now (length c.args.inside.now) c.loop-i.i c.index-inside-i.result refl (omega arith) c.index-inside-i.is) c.loop-i.invariant c.in_ok-add_has.ensures

pub returns : goal.returns
returns c = kept_all c.args.entries.now.items c.loop-i.entries.items c.args.path.now c.args.inside.now c.loop-i.i (omega arith) c.loop-i.invariant
