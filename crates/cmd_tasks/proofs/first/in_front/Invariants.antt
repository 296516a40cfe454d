use Rattle.json_tree.specs.View.{tree}
use Rattle.cmd_tasks.proofs.Fronting.{IsFronting}
use Rattle.cmd_tasks.proofs.first.in_front.Given as goal

abbrev pub invariant-loop-i : goal.invariant-loop-i
invariant-loop-i l = IsFronting l.id l.fn.members l.i l.members l.object
