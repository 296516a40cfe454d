use Rattle.cmd_tasks.specs.Served.{sights}
use Rattle.cmd_tasks.proofs.Leavings.{page_stand, page_steps}
use Rattle.cmd_tasks.proofs.Pagings.{page_leads, page_stopped}
use Rattle.cmd_tasks.proofs.many.list_more.Goals as goal

pub glance-requires-clause-wanted : goal.glance-requires-clause-wanted
glance-requires-clause-wanted g c = c.requires.ready.0.wanted

pub go_on-requires-clause-many : goal.go_on-requires-clause-many
go_on-requires-clause-many g c = c.requires.ready.0

pub go_on-requires-clause-stand : goal.go_on-requires-clause-stand
go_on-requires-clause-stand g c = page_stand c.args.stand c.listed.result c.in-Shown.rows.items c.in-Shown.last c.listed.ensures c.requires.ready.1 c.in-Shown.ensures.few c.in-Shown.ensures.short

pub returns-in-Shown-clause-steps : goal.returns-in-Shown-clause-steps
returns-in-Shown-clause-steps g c =
    let made = c.in-Shown.ensures.made in
    page_steps c.args.by _ _ _ _ c.args.many c.args.stand c.listed.result c.in-Shown.item c.in-Shown.rows.items c.in-Shown.last c.go_on.result c.requires.ready.2 made.0 made.1 c.in-Shown.ensures.few c.listed.ensures c.go_on.ensures.ready

pub returns-in-Shown-clause-leads : goal.returns-in-Shown-clause-leads
returns-in-Shown-clause-leads g c = λ base told_base trace placed way.
    page_leads base c.args.coll.now c.args.by c.args.many c.args.stand c.requires.ready.2 c.glance.new.store.journal (sights c.args.store.now.journal trace) way
    c.in-Shown.item c.in-Shown.rows c.in-Shown.last (c.in-Shown.ensures.told base told_base) c.listed.result c.go_on.result c.listed.ensures c.go_on.ensures.told

pub returns-in-Ended-clause-leads : goal.returns-in-Ended-clause-leads
returns-in-Ended-clause-leads g c = λ base told_base trace placed way.
    page_stopped base c.args.coll.now c.args.by c.args.many c.args.stand c.requires.ready.2 c.glance.new.store.journal (sights c.args.store.now.journal trace) way
    c.in-Ended.item c.in-Ended.reply c.told_after.result (c.in-Ended.ensures.told base told_base) (λ error refuses st m n. c.told_after.ensures.refuses st error m n refuses)
