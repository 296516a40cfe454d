use Rattle.std.proofs.Common.{◌≡◌, ℕ, List, Some, subst}
use Rattle.std.specs.Prelude.{IfOk}
use Rattle.reply_env.specs.Messages as errors
use Rattle.reply_env.specs.declared.reply.ErrorItem.{ErrorItem}
use Rattle.cmd_tasks.specs.Looking.{Refuses}
use Rattle.cmd_tasks.specs.Served.{sights}
use Rattle.cmd_tasks.specs.declared.work.State.TheVariants.{Retrying}
use Rattle.cmd_tasks.proofs.Requests.{marked_steps, failed_steps}
use Rattle.cmd_tasks.proofs.Leavings.{ended_steps}
use Rattle.cmd_tasks.proofs.Retrials.{retakes_steps, retakes_leads, look_marked, look_failed}
use Rattle.cmd_tasks.proofs.many.look_again.Goals as goal

pub retaken-requires-clause-many : goal.retaken-requires-clause-many
retaken-requires-clause-many g c = c.requires.ready.0

pub retaken-requires-clause-stand : goal.retaken-requires-clause-stand
retaken-requires-clause-stand g c = c.requires.ready.1

pub retaken-requires-clause-room : goal.retaken-requires-clause-room
retaken-requires-clause-room g c = c.requires.ready.4

pub retaken-requires-clause-short : goal.retaken-requires-clause-short
retaken-requires-clause-short g c = c.in-Row.ensures.answers.1

pub returns-in-Row-clause-steps : goal.returns-in-Row-clause-steps
returns-in-Row-clause-steps g c =
    let told = c.in-Row.ensures.answers in
    retakes_steps c.args.by _ _ _ _ c.args.many c.args.stand c.args.id c.in-Row.at c.in-Ok.ends.after c.in-Ok.ends.up_to c.in-Row.row c.retaken.result told.0.1 told.0.0 c.retaken.ensures

pub returns-in-Row-clause-leads : goal.returns-in-Row-clause-leads
returns-in-Row-clause-leads g c = λ base told_base trace placed way.
    let told = c.in-Row.ensures.answers in
    let at_base = told.2 base told_base in
    retakes_leads base c.args.coll.now c.args.by c.args.many c.args.stand c.args.id c.requires.ready.1.lost c.args.store.now.journal c.look.new.self.journal (sights c.args.store.now.journal trace) way
    c.in-Row.at c.in-Ok.ends.after c.in-Ok.ends.up_to c.in-Row.row c.retaken.result told.0.1 told.0.0 c.in-Ok.ensures.0 c.in-Ok.ensures.1 at_base.0 at_base.1 at_base.2 c.retaken.ensures

pub returns-in-NoCollection-clause-steps : goal.returns-in-NoCollection-clause-steps
returns-in-NoCollection-clause-steps g c =
    let gone = subst (λ (n : List ℕ). IfOk c.no_collection-error.result (λ (e : ErrorItem). e ≡ errors.no_collection n)) c.text.ensures.value c.no_collection-error.ensures in
    let told = c.in-NoCollection.ensures.answers in
    ended_steps c.args.by _ _ _ _ (Retrying c.args.many c.args.stand c.args.id) c.args.many.doing c.args.stand c.marked.result c.ends_after.result
    (marked_steps c.args.by _ _ _ _ (Retrying c.args.many c.args.stand c.args.id) c.in-NoCollection.at (Some c.in-Ok.ends.after) (Some c.in-Ok.ends.up_to) (Refuses (errors.no_collection c.args.coll.now)) c.marked.result told.0.1 told.0.0 (c.marked.ensures (errors.no_collection c.args.coll.now) gone)) c.ends_after.ensures

pub returns-in-NoCollection-clause-leads : goal.returns-in-NoCollection-clause-leads
returns-in-NoCollection-clause-leads g c = λ base told_base trace placed way.
    let gone = subst (λ (n : List ℕ). IfOk c.no_collection-error.result (λ (e : ErrorItem). e ≡ errors.no_collection n)) c.text.ensures.value c.no_collection-error.ensures in
    let told = c.in-NoCollection.ensures.answers in
    look_marked base c.args.coll.now c.args.by c.args.many c.args.stand c.args.id c.requires.ready.1.lost c.args.store.now.journal c.look.new.self.journal (sights c.args.store.now.journal trace) way
    c.in-NoCollection.at c.in-Ok.ends.after c.in-Ok.ends.up_to c.marked.result c.ends_after.result c.in-Ok.ensures.0 c.in-Ok.ensures.1 told.0.1 told.0.0 (told.1 base told_base) (c.marked.ensures (errors.no_collection c.args.coll.now) gone) c.ends_after.ensures

pub returns-in-Fault-clause-steps : goal.returns-in-Fault-clause-steps
returns-in-Fault-clause-steps g c =
    let told = c.in-Fault.ensures.answers in
    ended_steps c.args.by _ _ _ _ (Retrying c.args.many c.args.stand c.args.id) c.args.many.doing c.args.stand c.failed.result c.ends_after-in-Fault.result
    (failed_steps c.args.by _ _ _ _ (Retrying c.args.many c.args.stand c.args.id) c.in-Fault.at c.in-Fault.before c.in-Fault.after (Refuses (errors.store_fault c.in-Fault.before c.in-Fault.after)) c.failed.result told.entered told.point told.rose told.before_is told.count_is c.failed.ensures) c.ends_after-in-Fault.ensures

pub returns-in-Fault-clause-leads : goal.returns-in-Fault-clause-leads
returns-in-Fault-clause-leads g c = λ base told_base trace placed way.
    let told = c.in-Fault.ensures.answers in
    look_failed base c.args.coll.now c.args.by c.args.many c.args.stand c.args.id c.requires.ready.1.lost c.args.store.now.journal c.look.new.self.journal (sights c.args.store.now.journal trace) way
    c.in-Fault.at c.in-Fault.before c.in-Fault.after c.failed.result c.ends_after-in-Fault.result told.entered told.point c.failed.ensures c.ends_after-in-Fault.ensures
