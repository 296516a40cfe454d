use Rattle.std.proofs.Common.{◌≡◌, map, take}
use Rattle.cmd_tasks.specs.Pages.{pair_of}
use Rattle.cmd_tasks.proofs.glance.pairs.Given as goal

abbrev pub invariant-rows : goal.invariant-rows
invariant-rows l = l.pairs.items ≡ map pair_of (take l.row-index l.rows)
