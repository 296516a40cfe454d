use Rattle.update_ops.proofs.Rounds.{overlaps}
use Rattle.update_ops.proofs.by_parts.overlap.Goals as goal

pub returns : goal.returns
returns c = overlaps c.overlaps.result c.args.path.now c.args.other.now c.overlaps.ensures
