use Rattle.std.proofs.Common.{rules, sym, subst}
use Rattle.cmd_tasks.specs.Moves.{Steps, Leads}
use Rattle.cmd_tasks.specs.Served.{sights}
use Rattle.cmd_tasks.specs.declared.work.State.TheVariants.{Counting}
use Rattle.cmd_tasks.proofs.Requests.{count_steps, count_leads, count_ended}
use Rattle.cmd_tasks.proofs.steps.count.Goals as goal

pub returns-in-Shown-clause-steps : goal.returns-in-Shown-clause-steps
returns-in-Shown-clause-steps g c = subst (Steps c.args.by _ _ (Counting c.args.wanted c.args.last c.args.so_far) c.args.store.now.journal c.glance.new.store.journal) (sym c.counted_to.ensures)
    (count_steps c.args.by _ _ _ _ c.args.wanted c.args.last c.args.so_far _ c.in-Shown.item c.in-Shown.rows c.in-Shown.last c.requires.wanted c.in-Shown.ensures.made)

pub returns-in-Shown-clause-leads : goal.returns-in-Shown-clause-leads
returns-in-Shown-clause-leads g c = λ base told_base trace placed way.
    let earlier = sights c.args.store.now.journal trace in
    subst (Leads base c.args.coll.now c.args.by c.glance.new.store.journal (Counting c.args.wanted c.args.last c.args.so_far) earlier) (sym c.counted_to.ensures)
    (count_leads base c.args.coll.now c.args.by c.args.wanted c.args.last c.args.so_far _ c.glance.new.store.journal earlier c.in-Shown.item c.in-Shown.rows c.in-Shown.last (search rules) way (c.in-Shown.ensures.told base told_base))

pub returns-in-Ended-clause-leads : goal.returns-in-Ended-clause-leads
returns-in-Ended-clause-leads g c = λ base told_base trace placed way.
    let earlier = sights c.args.store.now.journal trace in
    count_ended base c.args.coll.now c.args.by c.args.wanted c.args.last c.args.so_far c.glance.new.store.journal earlier c.in-Ended.item c.in-Ended.reply way (c.in-Ended.ensures.told base told_base)
