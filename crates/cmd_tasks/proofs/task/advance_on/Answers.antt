use Rattle.std.proofs.Common.{sym, subst}
use Rattle.cmd_tasks.specs.Moves.{Steps, Promises, IsReady}
use Rattle.cmd_tasks.specs.declared.work.State.{State}
use Rattle.cmd_tasks.proofs.task.advance_on.Goals as goal

pub insert-requires-clause-ready : goal.insert-requires-clause-ready
insert-requires-clause-ready g c = subst (λ (w : State). IsReady w) c.in-Inserting.is c.requires.ready

pub returns-in-Inserting-clause-steps : goal.returns-in-Inserting-clause-steps
returns-in-Inserting-clause-steps g c = subst (λ (w : State). Steps c.args.by (g.K.Keeper.failed c.args.store.now.keeper) (g.K.Keeper.failed c.insert.new.store.keeper) w c.args.store.now.journal c.insert.new.store.journal c.insert.result) (sym c.in-Inserting.is) c.insert.ensures.steps

pub returns-in-Inserting-clause-leads : goal.returns-in-Inserting-clause-leads
returns-in-Inserting-clause-leads g c = subst (λ (w : State). Promises c.args.store.now.start c.args.coll.now c.args.by c.args.store.now.journal c.insert.new.store.journal w c.insert.result) (sym c.in-Inserting.is) c.insert.ensures.leads

pub select-requires-clause-searchable : goal.select-requires-clause-searchable
select-requires-clause-searchable g c = let r = subst (λ (w : State). IsReady w) c.in-Selecting.is c.requires.ready in r.0

pub select-requires-clause-one : goal.select-requires-clause-one
select-requires-clause-one g c = let r = subst (λ (w : State). IsReady w) c.in-Selecting.is c.requires.ready in r.1

pub returns-in-Selecting-clause-steps : goal.returns-in-Selecting-clause-steps
returns-in-Selecting-clause-steps g c = subst (λ (w : State). Steps c.args.by (g.K.Keeper.failed c.args.store.now.keeper) (g.K.Keeper.failed c.select.new.store.keeper) w c.args.store.now.journal c.select.new.store.journal c.select.result) (sym c.in-Selecting.is) c.select.ensures.steps

pub returns-in-Selecting-clause-leads : goal.returns-in-Selecting-clause-leads
returns-in-Selecting-clause-leads g c = subst (λ (w : State). Promises c.args.store.now.start c.args.coll.now c.args.by c.args.store.now.journal c.select.new.store.journal w c.select.result) (sym c.in-Selecting.is) c.select.ensures.leads

pub list-requires-clause-searchable : goal.list-requires-clause-searchable
list-requires-clause-searchable g c = let r = subst (λ (w : State). IsReady w) c.in-Listing.is c.requires.ready in r.0

pub list-requires-clause-part : goal.list-requires-clause-part
list-requires-clause-part g c = let r = subst (λ (w : State). IsReady w) c.in-Listing.is c.requires.ready in r.1

pub list-requires-clause-keep : goal.list-requires-clause-keep
list-requires-clause-keep g c = let r = subst (λ (w : State). IsReady w) c.in-Listing.is c.requires.ready in r.2

pub returns-in-Listing-clause-steps : goal.returns-in-Listing-clause-steps
returns-in-Listing-clause-steps g c = subst (λ (w : State). Steps c.args.by (g.K.Keeper.failed c.args.store.now.keeper) (g.K.Keeper.failed c.list.new.store.keeper) w c.args.store.now.journal c.list.new.store.journal c.list.result) (sym c.in-Listing.is) c.list.ensures.steps

pub returns-in-Listing-clause-leads : goal.returns-in-Listing-clause-leads
returns-in-Listing-clause-leads g c = subst (λ (w : State). Promises c.args.store.now.start c.args.coll.now c.args.by c.args.store.now.journal c.list.new.store.journal w c.list.result) (sym c.in-Listing.is) c.list.ensures.leads

pub count-requires-clause-wanted : goal.count-requires-clause-wanted
count-requires-clause-wanted g c = let r = subst (λ (w : State). IsReady w) c.in-Counting.is c.requires.ready in r.0

pub count-requires-clause-few : goal.count-requires-clause-few
count-requires-clause-few g c = let r = subst (λ (w : State). IsReady w) c.in-Counting.is c.requires.ready in r.1

pub returns-in-Counting-clause-steps : goal.returns-in-Counting-clause-steps
returns-in-Counting-clause-steps g c = subst (λ (w : State). Steps c.args.by (g.K.Keeper.failed c.args.store.now.keeper) (g.K.Keeper.failed c.count.new.store.keeper) w c.args.store.now.journal c.count.new.store.journal c.count.result) (sym c.in-Counting.is) c.count.ensures.steps

pub returns-in-Counting-clause-leads : goal.returns-in-Counting-clause-leads
returns-in-Counting-clause-leads g c = subst (λ (w : State). Promises c.args.store.now.start c.args.coll.now c.args.by c.args.store.now.journal c.count.new.store.journal w c.count.result) (sym c.in-Counting.is) c.count.ensures.leads

pub returns-in-Creating-clause-steps : goal.returns-in-Creating-clause-steps
returns-in-Creating-clause-steps g c = subst (λ (w : State). Steps c.args.by (g.K.Keeper.failed c.args.store.now.keeper) (g.K.Keeper.failed c.create.new.store.keeper) w c.args.store.now.journal c.create.new.store.journal c.create.result) (sym c.in-Creating.is) c.create.ensures.steps

pub returns-in-Creating-clause-leads : goal.returns-in-Creating-clause-leads
returns-in-Creating-clause-leads g c = subst (λ (w : State). Promises c.args.store.now.start c.args.coll.now c.args.by c.args.store.now.journal c.create.new.store.journal w c.create.result) (sym c.in-Creating.is) c.create.ensures.leads

pub returns-in-Dropping-clause-steps : goal.returns-in-Dropping-clause-steps
returns-in-Dropping-clause-steps g c = subst (λ (w : State). Steps c.args.by (g.K.Keeper.failed c.args.store.now.keeper) (g.K.Keeper.failed c.drop_collection.new.store.keeper) w c.args.store.now.journal c.drop_collection.new.store.journal c.drop_collection.result) (sym c.in-Dropping.is) c.drop_collection.ensures.steps

pub returns-in-Dropping-clause-leads : goal.returns-in-Dropping-clause-leads
returns-in-Dropping-clause-leads g c = subst (λ (w : State). Promises c.args.store.now.start c.args.coll.now c.args.by c.args.store.now.journal c.drop_collection.new.store.journal w c.drop_collection.result) (sym c.in-Dropping.is) c.drop_collection.ensures.leads

pub returns-in-Naming-clause-steps : goal.returns-in-Naming-clause-steps
returns-in-Naming-clause-steps g c = subst (λ (w : State). Steps c.args.by (g.K.Keeper.failed c.args.store.now.keeper) (g.K.Keeper.failed c.name_all.new.store.keeper) w c.args.store.now.journal c.name_all.new.store.journal c.name_all.result) (sym c.in-Naming.is) c.name_all.ensures.steps

pub returns-in-Naming-clause-leads : goal.returns-in-Naming-clause-leads
returns-in-Naming-clause-leads g c = subst (λ (w : State). Promises c.args.store.now.start c.args.coll.now c.args.by c.args.store.now.journal c.name_all.new.store.journal w c.name_all.result) (sym c.in-Naming.is) (c.name_all.ensures.leads c.args.coll.now)
