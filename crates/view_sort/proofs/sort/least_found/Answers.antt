use Rattle.view_sort.proofs.Ordered.{if_ok}
use Rattle.view_sort.proofs.Selected.{found_least}
use Rattle.view_sort.proofs.sort.least_found.Goals as goal

pub returns-clause-ok : goal.returns-clause-ok
returns-clause-ok c =
    let parts = c.select_nth_unstable-front.result in
    if_ok c.sorted_copies.result c.sorted_copies.ensures.ok
    (λ v e. found_least c.args.keep c.args.ranked.items c.deref_mut.result.now parts.0.now parts.2.now parts.1.now v.items c.deref_mut.ensures.value c.select_nth_unstable-front.ensures.permutation c.select_nth_unstable-front.ensures.front_len
    c.select_nth_unstable-front.ensures.partitioned e)
