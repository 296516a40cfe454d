use Rattle.view_sort.proofs.Ordered.{if_ok}
use Rattle.view_sort.proofs.sort.sorted_copies.Goals as goal

pub returns-clause-ok : goal.returns-clause-ok
returns-clause-ok c =
    if_ok c.copies_of.result c.copies_of.ensures.ok
    (λ v e. record { sorted = c.sort_unstable.new.self; same = c.sort_unstable.ensures.permutation; ascending = c.sort_unstable.ensures.sorted; found = e })
