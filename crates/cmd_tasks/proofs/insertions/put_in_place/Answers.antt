use Rattle.std.proofs.Common.{rules, ◌≡◌, ℕ, Option, IsSome, refl, sym, subst, inl, inr, Some, ◌∙◌}
use Rattle.json_tree.specs.Tree.{Tree}
use Rattle.col_keeper.specs.Tables.{IsShort}
use Rattle.reply_env.specs.Messages as errors
use Rattle.store_core.specs.State.{number_at}
use Rattle.store_core.specs.Journal.{replay}
use Rattle.cmd_tasks.specs.Looking.{Refuses}
use Rattle.cmd_tasks.specs.Moves.{EndsSo}
use Rattle.cmd_tasks.specs.declared.trace.Item.TheVariants.{Lost, Faulted}
use Rattle.cmd_tasks.proofs.Glances.{wrote_here, lost_here, failed_here}
use Rattle.cmd_tasks.proofs.Requests.{gone_not_spent}
use Rattle.cmd_tasks.proofs.Puts.{found_one, ends_puts, marked_puts, put_ends, taken_ends, mark_ends, fault_ends}
use Rattle.cmd_tasks.proofs.insertions.put_in_place.Goals as goal

pub write-requires-clause-short : goal.write-requires-clause-short
write-requires-clause-short g c = subst (λ (i : Tree). IsShort i) (sym c.in-Ok.ensures) (c.limits_bound_ids.ensures c.args.doc c.value.ensures.document c.requires.limits)

pub write-requires-clause-new : goal.write-requires-clause-new
write-requires-clause-new g c = (sym c.in-Ok.ensures, c.requires.limits)

pub returns-in-Written-clause-puts : goal.returns-in-Written-clause-puts
returns-in-Written-clause-puts g c = let told = c.in-Written.ensures.answers in wrote_here c.args.by _ _ _ _ c.in-Written.at c.in-Written.tx _ _ _ _ told.0.1 told.0.0

pub returns-in-Written-clause-told : goal.returns-in-Written-clause-told
returns-in-Written-clause-told g c = λ base told_base.
    let told = c.in-Written.ensures.answers in
    put_ends base c.args.coll.now c.args.by c.args.doc c.args.reply c.args.store.now.journal c.write.new.self.journal c.in-Written.at c.in-Written.tx c.in-Ok.key c.in-Ok.ensures told.0.1 told.0.0 (told.2 base told_base).1

pub taken-requires : goal.taken-requires
taken-requires g c = let f = found_one c.in-Lost.found c.in-Lost.ensures.answers.1 in subst (λ (o : Option ℕ). IsSome o) (sym f.1) refl

pub returns-in-Lost-clause-puts : goal.returns-in-Lost-clause-puts
returns-in-Lost-clause-puts g c =
    let told = c.in-Lost.ensures.answers in
    let f = found_one c.in-Lost.found told.1 in
    ends_puts c.args.by _ _ _ _ (Lost c.in-Lost.at 0 (Some f.0)) (Refuses (errors.already_exists c.in-Ok.key f.0)) c.taken.result (lost_here c.args.by _ _ _ _ c.in-Lost.at 0 (Some f.0) told.0.1 told.0.0) (c.taken.ensures f.0 f.1)

pub returns-in-Lost-clause-told : goal.returns-in-Lost-clause-told
returns-in-Lost-clause-told g c = λ base told_base.
    let told = c.in-Lost.ensures.answers in
    let f = found_one c.in-Lost.found told.1 in
    taken_ends base c.args.coll.now c.args.by c.args.doc c.args.reply c.args.store.now.journal c.write.new.self.journal c.in-Lost.at f.0 c.taken.result told.0.1 told.0.0
    (subst (λ (i : Tree). number_at (replay base c.args.store.now.journal) c.args.coll.now i ≡ Some f.0) c.in-Ok.ensures ((told.2 base told_base).1 ∙ f.1))
    (subst (λ (i : Tree). EndsSo (Lost c.in-Lost.at 0 (Some f.0)) (Refuses (errors.already_exists i f.0)) c.taken.result) c.in-Ok.ensures (c.taken.ensures f.0 f.1))

pub returns-in-NoCollection-clause-puts : goal.returns-in-NoCollection-clause-puts
returns-in-NoCollection-clause-puts g c =
    let told = c.in-NoCollection.ensures.answers in
    marked_puts c.args.by _ _ _ _ c.in-NoCollection.at (Some c.in-Ok-ends_of.ends.after) (Some c.in-Ok-ends_of.ends.up_to) (Refuses (errors.no_collection c.args.coll.now)) c.marked.result told.0.1 told.0.0 (c.marked.ensures (errors.no_collection c.args.coll.now) (search rules))

pub returns-in-NoCollection-clause-told : goal.returns-in-NoCollection-clause-told
returns-in-NoCollection-clause-told g c = λ base told_base.
    let told = c.in-NoCollection.ensures.answers in
    mark_ends base c.args.coll.now c.args.by c.args.doc c.args.reply c.args.store.now.journal c.write.new.self.journal c.in-NoCollection.at c.in-Ok-ends_of.ends.after c.in-Ok-ends_of.ends.up_to (errors.no_collection c.args.coll.now) c.marked.result
    (c.in-Ok-ends_of.ensures.0 ∙ c.in-Ok.ensures) (c.in-Ok-ends_of.ensures.1 ∙ c.in-Ok.ensures) told.0.1 told.0.0
    (inr ((λ e. gone_not_spent _ _ (c.in-NoCollection.ensures.spent (sym (c.journal_len.ensures.next base told_base) ∙ e))), told.1 base told_base, refl)) (c.marked.ensures (errors.no_collection c.args.coll.now) (search rules))

pub returns-in-VersionsSpent-clause-puts : goal.returns-in-VersionsSpent-clause-puts
returns-in-VersionsSpent-clause-puts g c =
    let told = c.in-VersionsSpent.ensures.answers in
    marked_puts c.args.by _ _ _ _ c.in-VersionsSpent.at (Some c.in-Ok-ends_of.ends.after) (Some c.in-Ok-ends_of.ends.up_to) (Refuses errors.versions_spent) c.marked-in-VersionsSpent.result told.0.1 told.0.0 (c.marked-in-VersionsSpent.ensures errors.versions_spent c.versions_spent.ensures)

pub returns-in-VersionsSpent-clause-told : goal.returns-in-VersionsSpent-clause-told
returns-in-VersionsSpent-clause-told g c = λ base told_base.
    let told = c.in-VersionsSpent.ensures.answers in
    mark_ends base c.args.coll.now c.args.by c.args.doc c.args.reply c.args.store.now.journal c.write.new.self.journal c.in-VersionsSpent.at c.in-Ok-ends_of.ends.after c.in-Ok-ends_of.ends.up_to errors.versions_spent c.marked-in-VersionsSpent.result
    (c.in-Ok-ends_of.ensures.0 ∙ c.in-Ok.ensures) (c.in-Ok-ends_of.ensures.1 ∙ c.in-Ok.ensures) told.0.1 told.0.0
    (inl (c.journal_len.ensures.next base told_base ∙ told.1, refl)) (c.marked-in-VersionsSpent.ensures errors.versions_spent c.versions_spent.ensures)

pub returns-in-Fault-clause-puts : goal.returns-in-Fault-clause-puts
returns-in-Fault-clause-puts g c =
    let told = c.in-Fault.ensures.answers in
    ends_puts c.args.by _ _ _ _ (Faulted c.in-Fault.at c.in-Fault.before c.in-Fault.after) (Refuses (errors.store_fault c.in-Fault.before c.in-Fault.after)) c.failed.result
    (failed_here c.args.by _ _ _ _ c.in-Fault.at c.in-Fault.before c.in-Fault.after told.entered told.point told.rose told.before_is told.count_is) c.failed.ensures

pub returns-in-Fault-clause-told : goal.returns-in-Fault-clause-told
returns-in-Fault-clause-told g c = λ base told_base.
    let told = c.in-Fault.ensures.answers in
    fault_ends base c.args.coll.now c.args.by c.args.doc c.args.reply c.args.store.now.journal c.write.new.self.journal c.in-Fault.at c.in-Fault.before c.in-Fault.after c.failed.result told.entered told.point c.failed.ensures
