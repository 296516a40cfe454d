use Rattle.std.proofs.Common.{sym, subst}
use Rattle.std.specs.Option.{ForSome}
use Rattle.store_core.specs.Journal.{replay}
use Rattle.cmd_tasks.specs.Moves.{Steps, Promises, IsReady, Fits}
use Rattle.cmd_tasks.specs.declared.work.State.{State}
use Rattle.cmd_tasks.proofs.task.advance_changes.Goals as goal

pub choose-requires-clause-one : goal.choose-requires-clause-one
choose-requires-clause-one g c = let r = subst (λ (w : State). IsReady w) c.in-Choosing.is c.requires.ready in r.0

pub choose-requires-clause-few : goal.choose-requires-clause-few
choose-requires-clause-few g c = let r = subst (λ (w : State). IsReady w) c.in-Choosing.is c.requires.ready in r.1

pub choose-requires-clause-short : goal.choose-requires-clause-short
choose-requires-clause-short g c = let r = subst (λ (w : State). IsReady w) c.in-Choosing.is c.requires.ready in r.2

pub returns-in-Choosing-clause-steps : goal.returns-in-Choosing-clause-steps
returns-in-Choosing-clause-steps g c = subst (λ (w : State). Steps c.args.by (g.K.Keeper.failed c.args.store.now.keeper) (g.K.Keeper.failed c.choose.new.store.keeper) w c.args.store.now.journal c.choose.new.store.journal c.choose.result) (sym c.in-Choosing.is) c.choose.ensures.steps

pub returns-in-Choosing-clause-leads : goal.returns-in-Choosing-clause-leads
returns-in-Choosing-clause-leads g c = subst (λ (w : State). Promises c.args.store.now.start c.args.coll.now c.args.by c.args.store.now.journal c.choose.new.store.journal w c.choose.result) (sym c.in-Choosing.is) c.choose.ensures.leads

pub change-requires-clause-one : goal.change-requires-clause-one
change-requires-clause-one g c = let r = subst (λ (w : State). IsReady w) c.in-Changing.is c.requires.ready in r.0

pub change-requires-clause-ready : goal.change-requires-clause-ready
change-requires-clause-ready g c = let r = subst (λ (w : State). IsReady w) c.in-Changing.is c.requires.ready in r.1

pub change-requires-clause-fits : goal.change-requires-clause-fits
change-requires-clause-fits g c = subst (λ (w : State). ForSome c.args.store.now.start (λ b. Fits (replay b c.args.store.now.journal) c.args.coll.now w)) c.in-Changing.is c.requires.fits

pub returns-in-Changing-clause-steps : goal.returns-in-Changing-clause-steps
returns-in-Changing-clause-steps g c = subst (λ (w : State). Steps c.args.by (g.K.Keeper.failed c.args.store.now.keeper) (g.K.Keeper.failed c.change.new.store.keeper) w c.args.store.now.journal c.change.new.store.journal c.change.result) (sym c.in-Changing.is) c.change.ensures.steps

pub returns-in-Changing-clause-leads : goal.returns-in-Changing-clause-leads
returns-in-Changing-clause-leads g c = subst (λ (w : State). Promises c.args.store.now.start c.args.coll.now c.args.by c.args.store.now.journal c.change.new.store.journal w c.change.result) (sym c.in-Changing.is) c.change.ensures.leads

pub put-requires-clause-limits : goal.put-requires-clause-limits
put-requires-clause-limits g c = subst (λ (w : State). IsReady w) c.in-Putting.is c.requires.ready

pub returns-in-Putting-clause-steps : goal.returns-in-Putting-clause-steps
returns-in-Putting-clause-steps g c = subst (λ (w : State). Steps c.args.by (g.K.Keeper.failed c.args.store.now.keeper) (g.K.Keeper.failed c.put.new.store.keeper) w c.args.store.now.journal c.put.new.store.journal c.put.result) (sym c.in-Putting.is) c.put.ensures.steps

pub returns-in-Putting-clause-leads : goal.returns-in-Putting-clause-leads
returns-in-Putting-clause-leads g c = subst (λ (w : State). Promises c.args.store.now.start c.args.coll.now c.args.by c.args.store.now.journal c.put.new.store.journal w c.put.result) (sym c.in-Putting.is) c.put.ensures.leads

pub list_more-requires-clause-ready : goal.list_more-requires-clause-ready
list_more-requires-clause-ready g c = subst (λ (w : State). IsReady w) c.in-Paging.is c.requires.ready

pub returns-in-Paging-clause-steps : goal.returns-in-Paging-clause-steps
returns-in-Paging-clause-steps g c = subst (λ (w : State). Steps c.args.by (g.K.Keeper.failed c.args.store.now.keeper) (g.K.Keeper.failed c.list_more.new.store.keeper) w c.args.store.now.journal c.list_more.new.store.journal c.list_more.result) (sym c.in-Paging.is) c.list_more.ensures.steps

pub returns-in-Paging-clause-leads : goal.returns-in-Paging-clause-leads
returns-in-Paging-clause-leads g c = subst (λ (w : State). Promises c.args.store.now.start c.args.coll.now c.args.by c.args.store.now.journal c.list_more.new.store.journal w c.list_more.result) (sym c.in-Paging.is) c.list_more.ensures.leads

pub try_one-requires-clause-ready : goal.try_one-requires-clause-ready
try_one-requires-clause-ready g c = subst (λ (w : State). IsReady w) c.in-Trying.is c.requires.ready

pub try_one-requires-clause-fits : goal.try_one-requires-clause-fits
try_one-requires-clause-fits g c = subst (λ (w : State). ForSome c.args.store.now.start (λ b. Fits (replay b c.args.store.now.journal) c.args.coll.now w)) c.in-Trying.is c.requires.fits

pub returns-in-Trying-clause-steps : goal.returns-in-Trying-clause-steps
returns-in-Trying-clause-steps g c = subst (λ (w : State). Steps c.args.by (g.K.Keeper.failed c.args.store.now.keeper) (g.K.Keeper.failed c.try_one.new.store.keeper) w c.args.store.now.journal c.try_one.new.store.journal c.try_one.result) (sym c.in-Trying.is) c.try_one.ensures.steps

pub returns-in-Trying-clause-leads : goal.returns-in-Trying-clause-leads
returns-in-Trying-clause-leads g c = subst (λ (w : State). Promises c.args.store.now.start c.args.coll.now c.args.by c.args.store.now.journal c.try_one.new.store.journal w c.try_one.result) (sym c.in-Trying.is) c.try_one.ensures.leads

pub look_again-requires-clause-ready : goal.look_again-requires-clause-ready
look_again-requires-clause-ready g c = subst (λ (w : State). IsReady w) c.in-Retrying.is c.requires.ready

pub returns-in-Retrying-clause-steps : goal.returns-in-Retrying-clause-steps
returns-in-Retrying-clause-steps g c = subst (λ (w : State). Steps c.args.by (g.K.Keeper.failed c.args.store.now.keeper) (g.K.Keeper.failed c.look_again.new.store.keeper) w c.args.store.now.journal c.look_again.new.store.journal c.look_again.result) (sym c.in-Retrying.is) c.look_again.ensures.steps

pub returns-in-Retrying-clause-leads : goal.returns-in-Retrying-clause-leads
returns-in-Retrying-clause-leads g c = subst (λ (w : State). Promises c.args.store.now.start c.args.coll.now c.args.by c.args.store.now.journal c.look_again.new.store.journal w c.look_again.result) (sym c.in-Retrying.is) c.look_again.ensures.leads

pub put_one-requires-clause-limits : goal.put_one-requires-clause-limits
put_one-requires-clause-limits g c = subst (λ (w : State). IsReady w) c.in-PuttingMany.is c.requires.ready

pub returns-in-PuttingMany-clause-steps : goal.returns-in-PuttingMany-clause-steps
returns-in-PuttingMany-clause-steps g c = subst (λ (w : State). Steps c.args.by (g.K.Keeper.failed c.args.store.now.keeper) (g.K.Keeper.failed c.put_one.new.store.keeper) w c.args.store.now.journal c.put_one.new.store.journal c.put_one.result) (sym c.in-PuttingMany.is) c.put_one.ensures.steps

pub returns-in-PuttingMany-clause-leads : goal.returns-in-PuttingMany-clause-leads
returns-in-PuttingMany-clause-leads g c = subst (λ (w : State). Promises c.args.store.now.start c.args.coll.now c.args.by c.args.store.now.journal c.put_one.new.store.journal w c.put_one.result) (sym c.in-PuttingMany.is) c.put_one.ensures.leads
