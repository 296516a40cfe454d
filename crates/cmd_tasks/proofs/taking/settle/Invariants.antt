use Rattle.std.proofs.Common.{◌-◌}
use Rattle.cmd_tasks.specs.Many.{doing_of}
use Rattle.cmd_tasks.proofs.Settling.{Settling}
use Rattle.cmd_tasks.proofs.taking.settle.Given as goal

abbrev pub invariant-rows : goal.invariant-rows
invariant-rows l = Settling (doing_of l.doing) l.initial.stand l.stand

abbrev pub decreases-rows : goal.decreases-rows
decreases-rows l = 20 - l.stand.matched
