use Rattle.std.proofs.Common.{◌≡◌, ◌++◌, take, drop}
use Rattle.update_ops.proofs.lists.add_range.Given as goal

abbrev pub invariant-loop-i : goal.invariant-loop-i
invariant-loop-i l = l.out ++ drop l.i (take l.to l.items) ≡ l.fn.out ++ drop l.from (take l.to l.items)
