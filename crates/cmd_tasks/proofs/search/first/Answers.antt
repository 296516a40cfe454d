use Rattle.cmd_tasks.proofs.Keeping.{keeps_ordered}
use Rattle.cmd_tasks.proofs.Shorts.{join_short, sorted_short}
use Rattle.cmd_tasks.proofs.search.first.Goals as goal

pub returns-clause-first : goal.returns-clause-first
returns-clause-first c =
    keeps_ordered c.first_of_pages_are_first.ensures c.args.search.now.sort c.args.search.now.keep c.args.kept.items c.args.rows.items _ c.is_empty-2.result c.is_empty-2.ensures c.if-is_empty-2.false c.in_ok-all.ensures c.order.result c.order.ensures.one

pub returns-clause-short : goal.returns-clause-short
returns-clause-short c = λ kept rows.
    sorted_short c.args.search.now.sort c.args.search.now.keep _ _ c.order.result c.in_ok-all.ensures (join_short c.args.kept.items c.args.rows.items kept rows) c.order.ensures.ok
