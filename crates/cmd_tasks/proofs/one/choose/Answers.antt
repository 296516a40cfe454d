use Rattle.std.proofs.Common.{refl, sym, subst, arith}
use Rattle.cmd_tasks.specs.Looking.{AreShort}
use Rattle.cmd_tasks.specs.Served.{sights}
use Rattle.cmd_tasks.specs.declared.work.Searched.TheVariants as sr
use Rattle.cmd_tasks.proofs.Rounds.{choose_steps, choose_seeks, choose_more, choose_whole, choose_stopped}
use Rattle.cmd_tasks.proofs.one.choose.Goals as goal

pub chosen-requires : goal.chosen-requires
chosen-requires g c = subst AreShort (sym c.as_slice.ensures.value) (c.in-Whole.ensures.short c.requires.short)

pub returns-in-More-clause-steps : goal.returns-in-More-clause-steps
returns-in-More-clause-steps g c = let told = c.in-More.ensures.searches in (told.0, refl, (c.requires.one, told.1.few, c.in-More.ensures.short c.requires.short), omega arith)

pub returns-in-More-clause-leads : goal.returns-in-More-clause-leads
returns-in-More-clause-leads g c = λ base told_base trace placed way.
    let earlier = sights c.args.store.now.journal trace in
    let seeks = choose_seeks base c.args.coll.now c.args.by c.args.one c.requires.one.one_is c.search.new.store.journal earlier c.args.progress way (sr.More c.in-More.item c.in-More.progress) (c.in-More.ensures.seeks base told_base) in
    choose_more base c.args.coll.now c.args.by c.args.one c.requires.one.one_is c.search.new.store.journal earlier c.args.progress way c.in-More.item seeks.0 c.in-More.progress seeks.1 seeks.2

pub returns-in-Whole-clause-steps : goal.returns-in-Whole-clause-steps
returns-in-Whole-clause-steps g c = choose_steps c.args.by _ _ _ _ c.args.one c.args.progress c.in-Whole.item c.as_slice.result.now c.chosen.result c.requires.one c.in-Whole.ensures.searches c.chosen.ensures

pub returns-in-Whole-clause-leads : goal.returns-in-Whole-clause-leads
returns-in-Whole-clause-leads g c = λ base told_base trace placed way.
    let earlier = sights c.args.store.now.journal trace in
    let seeks = choose_seeks base c.args.coll.now c.args.by c.args.one c.requires.one.one_is c.search.new.store.journal earlier c.args.progress way (sr.Whole c.in-Whole.item c.in-Whole.progress) (c.in-Whole.ensures.seeks base told_base) in
    choose_whole base c.args.coll.now c.args.by c.args.one c.requires.one.one_is c.search.new.store.journal earlier c.args.progress way c.in-Whole.item seeks.0 c.in-Whole.progress seeks.1 seeks.2 seeks.3 c.as_slice.result.now c.chosen.result (sym c.as_slice.ensures.value) c.chosen.ensures

pub returns-in-Stopped-clause-leads : goal.returns-in-Stopped-clause-leads
returns-in-Stopped-clause-leads g c = λ base told_base trace placed way.
    let earlier = sights c.args.store.now.journal trace in
    choose_stopped base c.args.coll.now c.args.by c.args.one c.requires.one.one_is c.search.new.store.journal earlier c.args.progress way c.in-Stopped.item c.in-Stopped.reply
    (choose_seeks base c.args.coll.now c.args.by c.args.one c.requires.one.one_is c.search.new.store.journal earlier c.args.progress way (sr.Stopped c.in-Stopped.item c.in-Stopped.reply) (c.in-Stopped.ensures.seeks base told_base))
