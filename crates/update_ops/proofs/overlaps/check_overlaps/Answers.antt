use Rattle.update_ops.proofs.Neighbours.{behind}
use Rattle.update_ops.proofs.overlaps.check_overlaps.Goals as goal

pub loop-i-init : goal.loop-i-init
loop-i-init c = behind c.in_ok-clear.clear c.args.paths.now c.in_ok-clear.ensures.clear
