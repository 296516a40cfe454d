use Rattle.shred_cols.proofs.Columned.{has_added, sorted_added, empty_list}
use Rattle.shred_cols.proofs.spread.add_kept.Goals as goal

pub returns-then-is_empty : goal.returns-then-is_empty
returns-then-is_empty c =
    has_added c.add_has.result c.args.entries.now.items c.add_has.new.entries.items c.args.place.now c.path.result.now c.kept.result.now c.inside.result.now c.path.ensures c.kept.ensures c.inside.ensures (empty_list c.inside.result.now c.is_empty.result c.is_empty.ensures c.if-is_empty.true) c.add_has.ensures

pub returns : goal.returns
returns c = sorted_added c.add_sorted.result c.args.entries.now.items c.add_sorted.new.entries.items c.args.place.now c.path-2.result.now c.kept-2.result.now c.inside-2.result.now c.path-2.ensures c.kept-2.ensures c.inside-2.ensures c.add_sorted.ensures
