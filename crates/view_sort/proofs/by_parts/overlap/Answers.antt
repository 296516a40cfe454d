use Rattle.view_sort.proofs.Overlaps.{overlap_is}
use Rattle.view_sort.proofs.by_parts.overlap.Goals as goal

pub returns : goal.returns
returns c = overlap_is c.overlaps.result c.args.path.now c.args.other.now c.overlaps.ensures
