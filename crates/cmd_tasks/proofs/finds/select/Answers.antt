use Rattle.std.proofs.Common.{refl}
use Rattle.cmd_tasks.specs.Served.{sights}
use Rattle.cmd_tasks.specs.declared.work.State.TheVariants.{Selecting}
use Rattle.cmd_tasks.specs.declared.work.Searched.TheVariants as sr
use Rattle.cmd_tasks.proofs.Selecting.{ended_steps, select_seeks, select_more, select_ended, select_stopped}
use Rattle.cmd_tasks.proofs.finds.select.Goals as goal

pub returns-in-More-clause-steps : goal.returns-in-More-clause-steps
returns-in-More-clause-steps g c = let told = c.in-More.ensures.searches in (told.0, refl, (told.1, c.requires.one), told.2)

pub returns-in-More-clause-leads : goal.returns-in-More-clause-leads
returns-in-More-clause-leads g c = λ base told_base trace placed way.
    let earlier = sights c.args.store.now.journal trace in
    select_more base c.args.coll.now c.args.by c.args.sought c.search.new.store.journal earlier c.args.progress c.args.projection c.requires.one way c.in-More.item c.in-More.progress
    (select_seeks base c.args.coll.now c.args.by c.args.sought c.search.new.store.journal earlier c.args.progress c.args.projection c.requires.one way (sr.More c.in-More.item c.in-More.progress) (c.in-More.ensures.seeks base told_base))

pub returns-in-Whole-clause-steps : goal.returns-in-Whole-clause-steps
returns-in-Whole-clause-steps g c = ended_steps c.args.by _ _ _ _ (Selecting c.args.sought c.args.progress c.args.projection) c.in-Whole.item _ c.selected.result c.in-Whole.ensures.searches c.selected.ensures

pub returns-in-Whole-clause-leads : goal.returns-in-Whole-clause-leads
returns-in-Whole-clause-leads g c = λ base told_base trace placed way.
    let earlier = sights c.args.store.now.journal trace in
    select_ended base c.args.coll.now c.args.by c.args.sought c.search.new.store.journal earlier c.args.progress c.args.projection c.requires.one way c.in-Whole.item c.in-Whole.progress c.selected.result
    (select_seeks base c.args.coll.now c.args.by c.args.sought c.search.new.store.journal earlier c.args.progress c.args.projection c.requires.one way (sr.Whole c.in-Whole.item c.in-Whole.progress) (c.in-Whole.ensures.seeks base told_base)) c.selected.ensures

pub returns-in-Stopped-clause-leads : goal.returns-in-Stopped-clause-leads
returns-in-Stopped-clause-leads g c = λ base told_base trace placed way.
    let earlier = sights c.args.store.now.journal trace in
    select_stopped base c.args.coll.now c.args.by c.args.sought c.search.new.store.journal earlier c.args.progress c.args.projection c.requires.one way c.in-Stopped.item c.in-Stopped.reply
    (select_seeks base c.args.coll.now c.args.by c.args.sought c.search.new.store.journal earlier c.args.progress c.args.projection c.requires.one way (sr.Stopped c.in-Stopped.item c.in-Stopped.reply) (c.in-Stopped.ensures.seeks base told_base))
