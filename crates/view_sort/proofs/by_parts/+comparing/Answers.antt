use Rattle.view_sort.proofs.Neighbours.{nothing_first, nothing_last}
use Rattle.view_sort.proofs.by_parts.+comparing.Goals as goal

pub more_cmp-returns-in-None-Some : goal.more_cmp-returns-in-None-Some
more_cmp-returns-in-None-Some t c = nothing_first c.args.more c.args.other _ c.in-None-Some.is-0 c.in-None-Some.is-1

pub more_cmp-returns-in-Some-None : goal.more_cmp-returns-in-Some-None
more_cmp-returns-in-Some-None t c = nothing_last c.args.more c.args.other _ c.in-Some-None.is-0 c.in-Some-None.is-1
