use Rattle.std.proofs.Common.{rules, ◌∙◌, Some, refl, sym, inl, inr}
use Rattle.reply_env.specs.Messages as errors
use Rattle.cmd_tasks.specs.Looking.{Refuses}
use Rattle.cmd_tasks.specs.declared.work.State.TheVariants.{Changing}
use Rattle.cmd_tasks.proofs.Glances.{wrote_here}
use Rattle.cmd_tasks.proofs.Requests.{gone_not_spent, marked_steps, failed_steps}
use Rattle.cmd_tasks.proofs.Tries.{loses_steps, change_written, loses_leads, change_marked, change_failed}
use Rattle.cmd_tasks.proofs.one.change.Goals as goal

pub returns-in-Written-clause-steps : goal.returns-in-Written-clause-steps
returns-in-Written-clause-steps g c = let told = c.in-Written.ensures.answers in wrote_here c.args.by _ _ _ _ c.in-Written.at c.in-Written.tx _ _ _ _ told.0.1 told.0.0

pub returns-in-Written-clause-leads : goal.returns-in-Written-clause-leads
returns-in-Written-clause-leads g c = λ base told_base trace placed way.
    let told = c.in-Written.ensures.answers in
    let lawful = c.journal_len.ensures.lawful base told_base in
    change_written base c.args.coll.now c.args.by c.args.one c.args.attempt c.args.reply c.args.store.now.journal trace placed lawful.0 (c.journal_len.ensures.apart base told_base) way c.numbers_are_given_once.ensures lawful.1
    c.write.new.self.journal c.in-Written.at c.in-Written.tx told.0.1 told.0.0 (told.2 base told_base).1

pub returns-in-Lost-clause-steps : goal.returns-in-Lost-clause-steps
returns-in-Lost-clause-steps g c =
    let told = c.in-Lost.ensures.answers in
    loses_steps c.args.by _ _ _ _ c.args.one c.args.attempt c.args.reply c.in-Lost.at c.in-Lost.found c.lost_to.result c.requires.one told.0.1 told.0.0 c.lost_to.ensures

pub returns-in-Lost-clause-leads : goal.returns-in-Lost-clause-leads
returns-in-Lost-clause-leads g c = λ base told_base trace placed way.
    let told = c.in-Lost.ensures.answers in
    let lawful = c.journal_len.ensures.lawful base told_base in
    loses_leads base c.args.coll.now c.args.by c.args.one c.args.attempt c.args.reply c.args.store.now.journal trace placed lawful.0 (c.journal_len.ensures.apart base told_base) way c.entries_tell_numbers.ensures.touched
    c.write.new.self.journal c.in-Lost.at c.in-Lost.found c.lost_to.result told.0.1 told.0.0 told.1 (told.2 base told_base).1 c.lost_to.ensures

pub returns-in-NoCollection-clause-steps : goal.returns-in-NoCollection-clause-steps
returns-in-NoCollection-clause-steps g c =
    let told = c.in-NoCollection.ensures.answers in
    marked_steps c.args.by _ _ _ _ (Changing c.args.one c.args.attempt c.args.reply) c.in-NoCollection.at (Some c.in-Ok.ends.after) (Some c.in-Ok.ends.up_to) (Refuses (errors.no_collection c.args.coll.now)) c.marked.result told.0.1 told.0.0 (c.marked.ensures (errors.no_collection c.args.coll.now) (search rules))

pub returns-in-NoCollection-clause-leads : goal.returns-in-NoCollection-clause-leads
returns-in-NoCollection-clause-leads g c = λ base told_base trace placed way.
    let told = c.in-NoCollection.ensures.answers in
    let lawful = c.journal_len.ensures.lawful base told_base in
    change_marked base c.args.coll.now c.args.by c.args.one c.args.attempt c.args.reply c.args.store.now.journal trace placed lawful.0 (c.journal_len.ensures.apart base told_base) way
    c.write.new.self.journal c.in-NoCollection.at c.in-Ok.ends.after c.in-Ok.ends.up_to (errors.no_collection c.args.coll.now) c.marked.result c.in-Ok.ensures.0 c.in-Ok.ensures.1 told.0.1 told.0.0 (inr ((λ e. gone_not_spent _ _ (c.in-NoCollection.ensures.spent (sym (c.journal_len.ensures.next base told_base) ∙ e))), told.1 base told_base, refl)) (c.marked.ensures (errors.no_collection c.args.coll.now) (search rules))

pub returns-in-VersionsSpent-clause-steps : goal.returns-in-VersionsSpent-clause-steps
returns-in-VersionsSpent-clause-steps g c =
    let told = c.in-VersionsSpent.ensures.answers in
    marked_steps c.args.by _ _ _ _ (Changing c.args.one c.args.attempt c.args.reply) c.in-VersionsSpent.at (Some c.in-Ok.ends.after) (Some c.in-Ok.ends.up_to) (Refuses errors.versions_spent) c.marked-in-VersionsSpent.result told.0.1 told.0.0 (c.marked-in-VersionsSpent.ensures errors.versions_spent c.versions_spent.ensures)

pub returns-in-VersionsSpent-clause-leads : goal.returns-in-VersionsSpent-clause-leads
returns-in-VersionsSpent-clause-leads g c = λ base told_base trace placed way.
    let told = c.in-VersionsSpent.ensures.answers in
    let lawful = c.journal_len.ensures.lawful base told_base in
    change_marked base c.args.coll.now c.args.by c.args.one c.args.attempt c.args.reply c.args.store.now.journal trace placed lawful.0 (c.journal_len.ensures.apart base told_base) way
    c.write.new.self.journal c.in-VersionsSpent.at c.in-Ok.ends.after c.in-Ok.ends.up_to errors.versions_spent c.marked-in-VersionsSpent.result c.in-Ok.ensures.0 c.in-Ok.ensures.1 told.0.1 told.0.0 (inl (c.journal_len.ensures.next base told_base ∙ told.1, refl)) (c.marked-in-VersionsSpent.ensures errors.versions_spent c.versions_spent.ensures)

pub returns-in-Fault-clause-steps : goal.returns-in-Fault-clause-steps
returns-in-Fault-clause-steps g c =
    let told = c.in-Fault.ensures.answers in
    failed_steps c.args.by _ _ _ _ (Changing c.args.one c.args.attempt c.args.reply) c.in-Fault.at c.in-Fault.before c.in-Fault.after (Refuses (errors.store_fault c.in-Fault.before c.in-Fault.after)) c.failed.result told.entered told.point told.rose told.before_is told.count_is c.failed.ensures

pub returns-in-Fault-clause-leads : goal.returns-in-Fault-clause-leads
returns-in-Fault-clause-leads g c = λ base told_base trace placed way.
    let told = c.in-Fault.ensures.answers in
    let lawful = c.journal_len.ensures.lawful base told_base in
    change_failed base c.args.coll.now c.args.by c.args.one c.args.attempt c.args.reply c.args.store.now.journal trace placed lawful.0 (c.journal_len.ensures.apart base told_base) way
    c.write.new.self.journal c.in-Fault.at c.in-Fault.before c.in-Fault.after c.failed.result told.entered told.point c.failed.ensures
