use Rattle.view_sort.proofs.Neighbours.{clear}
use Rattle.view_sort.proofs.by_parts.is_clear.Goals as goal

pub returns-clause-ok : goal.returns-clause-ok
returns-clause-ok c = λ e. clear c.args.paths.now c.in_ok-sorted.sorted.items c.in_ok-sorted.ensures.permutation c.in_ok-sorted.ensures.sorted (rw c.as_slice.ensures.value at (c.are_apart.ensures e))
