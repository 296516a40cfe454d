use Rattle.view_sort.proofs.Ordered.{if_ok}
use Rattle.view_sort.proofs.Selected.{found_all}
use Rattle.view_sort.proofs.sort.all_found.Goals as goal

pub returns-clause-ok : goal.returns-clause-ok
returns-clause-ok c =
    if_ok c.found_of.result c.found_of.ensures.ok
    (λ v e. found_all c.args.keep c.args.ranked.items c.sort_unstable.new.self.items v.items c.requires c.sort_unstable.ensures.permutation c.sort_unstable.ensures.sorted e)
