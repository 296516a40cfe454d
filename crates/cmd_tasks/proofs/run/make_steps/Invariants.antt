use Rattle.cmd_tasks.specs.Moves.{left}
use Rattle.cmd_tasks.proofs.Running.{IsServing}
use Rattle.cmd_tasks.proofs.run.make_steps.Given as goal

abbrev pub invariant-steps : goal.invariant-steps
invariant-steps g l = IsServing g.K.Keeper.failed l.fn.store l.store l.fn.task l.task

abbrev pub decreases-steps : goal.decreases-steps
decreases-steps g l = left l.task.state
