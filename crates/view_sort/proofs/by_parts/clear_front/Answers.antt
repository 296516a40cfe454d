use Rattle.view_sort.proofs.Neighbours.{none_clear}
use Rattle.view_sort.proofs.by_parts.clear_front.Goals as goal

pub returns-clause-clear : goal.returns-clause-clear
returns-clause-clear c = none_clear c.args.paths.now
