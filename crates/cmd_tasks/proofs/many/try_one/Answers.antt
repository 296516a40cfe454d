use Rattle.std.proofs.Common.{rules, ◌≡◌, ◌∙◌, ℕ, List, Some, refl, sym, subst, inl, inr, arith}
use Rattle.std.specs.Prelude.{IfOk}
use Rattle.reply_env.specs.Messages as errors
use Rattle.reply_env.specs.declared.reply.ErrorItem.{ErrorItem}
use Rattle.cmd_tasks.specs.Looking.{Refuses}
use Rattle.cmd_tasks.specs.declared.work.State.TheVariants.{Trying}
use Rattle.cmd_tasks.proofs.Glances.{wrote_here}
use Rattle.cmd_tasks.proofs.Requests.{gone_not_spent, marked_steps, failed_steps}
use Rattle.cmd_tasks.proofs.Leavings.{counted_stand, won_steps, lost_steps, ended_steps}
use Rattle.cmd_tasks.proofs.Trials.{won_leads, loses_leads, try_marked, try_failed}
use Rattle.cmd_tasks.proofs.many.try_one.Goals as goal

pub write-requires-clause-read : goal.write-requires-clause-read
write-requires-clause-read g c = c.requires.ready.3.read

pub write-requires-clause-short : goal.write-requires-clause-short
write-requires-clause-short g c = c.requires.ready.3.short

pub write-requires-clause-new : goal.write-requires-clause-new
write-requires-clause-new g c = c.requires.ready.3.new

pub write-requires-clause-made : goal.write-requires-clause-made
write-requires-clause-made g c = search rules

pub go_on-requires-clause-many : goal.go_on-requires-clause-many
go_on-requires-clause-many g c = c.requires.ready.0

pub go_on-requires-clause-stand : goal.go_on-requires-clause-stand
go_on-requires-clause-stand g c = counted_stand c.args.stand c.counted.result c.args.attempt.id c.counted.ensures c.requires.ready.1 c.requires.ready.2

pub counted-requires : goal.counted-requires
counted-requires g c = let a = c.requires.ready.1.few in let b = c.requires.ready.1.changed in record { few = (a, omega arith, omega arith) }

pub returns-in-Written-clause-steps : goal.returns-in-Written-clause-steps
returns-in-Written-clause-steps g c =
    let told = c.in-Written.ensures.answers in
    won_steps c.args.by _ _ _ _ c.args.many c.args.stand c.counted.result c.args.attempt _ c.args.attempt.id c.go_on.result c.requires.ready.1 (wrote_here c.args.by _ _ _ _ c.in-Written.at c.in-Written.tx _ _ _ _ told.0.1 told.0.0) c.counted.ensures c.go_on.ensures.ready

pub returns-in-Written-clause-leads : goal.returns-in-Written-clause-leads
returns-in-Written-clause-leads g c = λ base told_base trace placed way.
    let told = c.in-Written.ensures.answers in
    let lawful = c.journal_len.ensures.lawful base told_base in
    won_leads base c.args.coll.now c.args.by c.args.many c.args.stand c.args.attempt c.requires.ready.2 c.args.store.now.journal trace placed lawful.0 (c.journal_len.ensures.apart base told_base) way c.numbers_are_given_once.ensures lawful.1
    c.write.new.self.journal c.in-Written.at c.in-Written.tx c.counted.result c.go_on.result told.0.1 told.0.0 (told.2 base told_base).1 c.counted.ensures c.go_on.ensures.told

pub returns-in-Lost-clause-steps : goal.returns-in-Lost-clause-steps
returns-in-Lost-clause-steps g c =
    let told = c.in-Lost.ensures.answers in
    lost_steps c.args.by _ _ _ _ c.args.many c.args.stand c.args.attempt c.in-Lost.at c.args.attempt.id (record { read = c.args.attempt.read; found = c.in-Lost.found }) c.attempt_lost.result c.requires.ready refl told.0.1 told.0.0 c.attempt_lost.ensures

pub returns-in-Lost-clause-leads : goal.returns-in-Lost-clause-leads
returns-in-Lost-clause-leads g c = λ base told_base trace placed way.
    let told = c.in-Lost.ensures.answers in
    let lawful = c.journal_len.ensures.lawful base told_base in
    loses_leads base c.args.coll.now c.args.by c.args.many c.args.stand c.args.attempt c.requires.ready.2 c.args.store.now.journal trace placed lawful.0 (c.journal_len.ensures.apart base told_base) way c.entries_tell_numbers.ensures.touched
    c.write.new.self.journal c.in-Lost.at c.in-Lost.found c.attempt_lost.result told.0.1 told.0.0 told.1 (told.2 base told_base).1 c.attempt_lost.ensures

pub returns-in-NoCollection-clause-steps : goal.returns-in-NoCollection-clause-steps
returns-in-NoCollection-clause-steps g c =
    let gone = subst (λ (n : List ℕ). IfOk c.no_collection-error.result (λ (e : ErrorItem). e ≡ errors.no_collection n)) c.text.ensures.value c.no_collection-error.ensures in
    let told = c.in-NoCollection.ensures.answers in
    ended_steps c.args.by _ _ _ _ (Trying c.args.many c.args.stand c.args.attempt) c.args.many.doing c.args.stand c.marked.result c.ends_after.result
    (marked_steps c.args.by _ _ _ _ (Trying c.args.many c.args.stand c.args.attempt) c.in-NoCollection.at (Some c.in-Ok.ends.after) (Some c.in-Ok.ends.up_to) (Refuses (errors.no_collection c.args.coll.now)) c.marked.result told.0.1 told.0.0 (c.marked.ensures (errors.no_collection c.args.coll.now) gone)) c.ends_after.ensures

pub returns-in-NoCollection-clause-leads : goal.returns-in-NoCollection-clause-leads
returns-in-NoCollection-clause-leads g c = λ base told_base trace placed way.
    let gone = subst (λ (n : List ℕ). IfOk c.no_collection-error.result (λ (e : ErrorItem). e ≡ errors.no_collection n)) c.text.ensures.value c.no_collection-error.ensures in
    let told = c.in-NoCollection.ensures.answers in
    let lawful = c.journal_len.ensures.lawful base told_base in
    try_marked base c.args.coll.now c.args.by c.args.many c.args.stand c.args.attempt c.requires.ready.2 c.args.store.now.journal trace placed lawful.0 (c.journal_len.ensures.apart base told_base) way
    c.write.new.self.journal c.in-NoCollection.at c.in-Ok.ends.after c.in-Ok.ends.up_to (errors.no_collection c.args.coll.now) c.marked.result c.ends_after.result c.in-Ok.ensures.0 c.in-Ok.ensures.1 told.0.1 told.0.0
    (inr ((λ e. gone_not_spent _ _ (c.in-NoCollection.ensures.spent (sym (c.journal_len.ensures.next base told_base) ∙ e))), told.1 base told_base, refl)) (c.marked.ensures (errors.no_collection c.args.coll.now) gone) c.ends_after.ensures

pub returns-in-VersionsSpent-clause-steps : goal.returns-in-VersionsSpent-clause-steps
returns-in-VersionsSpent-clause-steps g c =
    let told = c.in-VersionsSpent.ensures.answers in
    ended_steps c.args.by _ _ _ _ (Trying c.args.many c.args.stand c.args.attempt) c.args.many.doing c.args.stand c.marked-in-VersionsSpent.result c.ends_after-in-VersionsSpent.result
    (marked_steps c.args.by _ _ _ _ (Trying c.args.many c.args.stand c.args.attempt) c.in-VersionsSpent.at (Some c.in-Ok.ends.after) (Some c.in-Ok.ends.up_to) (Refuses errors.versions_spent) c.marked-in-VersionsSpent.result told.0.1 told.0.0 (c.marked-in-VersionsSpent.ensures errors.versions_spent c.versions_spent-error.ensures)) c.ends_after-in-VersionsSpent.ensures

pub returns-in-VersionsSpent-clause-leads : goal.returns-in-VersionsSpent-clause-leads
returns-in-VersionsSpent-clause-leads g c = λ base told_base trace placed way.
    let told = c.in-VersionsSpent.ensures.answers in
    let lawful = c.journal_len.ensures.lawful base told_base in
    try_marked base c.args.coll.now c.args.by c.args.many c.args.stand c.args.attempt c.requires.ready.2 c.args.store.now.journal trace placed lawful.0 (c.journal_len.ensures.apart base told_base) way
    c.write.new.self.journal c.in-VersionsSpent.at c.in-Ok.ends.after c.in-Ok.ends.up_to errors.versions_spent c.marked-in-VersionsSpent.result c.ends_after-in-VersionsSpent.result c.in-Ok.ensures.0 c.in-Ok.ensures.1 told.0.1 told.0.0
    (inl (c.journal_len.ensures.next base told_base ∙ told.1, refl)) (c.marked-in-VersionsSpent.ensures errors.versions_spent c.versions_spent-error.ensures) c.ends_after-in-VersionsSpent.ensures

pub returns-in-Fault-clause-steps : goal.returns-in-Fault-clause-steps
returns-in-Fault-clause-steps g c =
    let told = c.in-Fault.ensures.answers in
    ended_steps c.args.by _ _ _ _ (Trying c.args.many c.args.stand c.args.attempt) c.args.many.doing c.args.stand c.failed.result c.ends_after-in-Fault.result
    (failed_steps c.args.by _ _ _ _ (Trying c.args.many c.args.stand c.args.attempt) c.in-Fault.at c.in-Fault.before c.in-Fault.after (Refuses (errors.store_fault c.in-Fault.before c.in-Fault.after)) c.failed.result told.entered told.point told.rose told.before_is told.count_is c.failed.ensures) c.ends_after-in-Fault.ensures

pub returns-in-Fault-clause-leads : goal.returns-in-Fault-clause-leads
returns-in-Fault-clause-leads g c = λ base told_base trace placed way.
    let told = c.in-Fault.ensures.answers in
    let lawful = c.journal_len.ensures.lawful base told_base in
    try_failed base c.args.coll.now c.args.by c.args.many c.args.stand c.args.attempt c.requires.ready.2 c.args.store.now.journal trace placed lawful.0 (c.journal_len.ensures.apart base told_base) way
    c.write.new.self.journal c.in-Fault.at c.in-Fault.before c.in-Fault.after c.failed.result c.ends_after-in-Fault.result told.entered told.point c.failed.ensures c.ends_after-in-Fault.ensures
