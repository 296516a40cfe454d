use Rattle.std.proofs.Common.{rules, ◌≡◌, ◌++◌, ◌∷◌, [], ℕ, List, Option, IsSome, refl, sym, ap, subst, inl, inr, Some, None, ◌∙◌, arith, append-nil}
use Rattle.json_tree.specs.Tree.{Tree}
use Rattle.shred_cols.specs.Row.{id_of}
use Rattle.col_keeper.specs.Tables.{IsShort}
use Rattle.reply_env.specs.Messages as errors
use Rattle.store_core.specs.State.{number_at}
use Rattle.store_core.specs.Journal.{replay}
use Rattle.store_core.specs.declared.entry.Entry.{Entry}
use Rattle.store_core.specs.declared.entry.Entry.TheVariants.{Changed}
use Rattle.store_core.specs.declared.entry.Change.TheVariants.{Insert}
use Rattle.cmd_tasks.specs.Served.{sights}
use Rattle.cmd_tasks.specs.Looking.{Made}
use Rattle.cmd_tasks.specs.Puts.{MarksPut}
use Rattle.cmd_tasks.specs.Moves.{Steps, Leads}
use Rattle.cmd_tasks.specs.Inserting.{HasMore, InsertsMore, StopsAll}
use Rattle.cmd_tasks.specs.declared.trace.Item.TheVariants.{Wrote, Lost, Faulted}
use Rattle.cmd_tasks.specs.declared.work.Insertions.{Insertions}
use Rattle.cmd_tasks.specs.declared.work.State.TheVariants.{Inserting}
use Rattle.cmd_tasks.specs.declared.work.Moved.TheVariants as m
use Rattle.cmd_tasks.proofs.Glances.{wrote_here, lost_here, failed_here, failed_stops}
use Rattle.cmd_tasks.proofs.Requests.{gone_not_spent}
use Rattle.cmd_tasks.proofs.Puts.{found_one, put_here}
use Rattle.cmd_tasks.proofs.Inserting.{with_room, on_steps, on_leads, doubled_steps, doubled_leads, stop_steps, fault_leads, mark_steps, mark_leads}
use Rattle.cmd_tasks.proofs.insertions.insert_doc.Goals as goal

pub write-requires-clause-short : goal.write-requires-clause-short
write-requires-clause-short g c = subst (λ (i : Tree). IsShort i) (sym c.requires.id) (c.limits_bound_ids.ensures c.args.next.doc c.requires.doc.document c.requires.doc.limits)

pub write-requires-clause-new : goal.write-requires-clause-new
write-requires-clause-new g c = (sym c.requires.id, c.requires.doc.limits)

pub returns-in-Written-clause-steps : goal.returns-in-Written-clause-steps
returns-in-Written-clause-steps g c = λ i ready next.
    let told = c.in-Written.ensures.answers in
    let more : Insertions = record c.args.rest { ids = c.push_reserved.new.self } in
    let has : HasMore (record c.args.rest { ids = c.reserve.new.self }) (c.args.next.key ∷ []) [] more = record { all = refl; left = refl; ordered = refl; ids_are = c.push_reserved.ensures.items; errors_are = sym (append-nil c.args.rest.errors.items) } in
    on_steps i c.args.next.doc (record c.args.rest { ids = c.reserve.new.self }) ready (with_room i c.args.next.doc c.args.rest c.reserve.new.self c.reserve.ensures.items next) (c.args.next.key ∷ []) [] more has _ _ c.args.by
    c.args.store.now.journal c.write.new.self.journal (Wrote c.in-Written.at) c.go_on.result (omega arith) (wrote_here c.args.by _ _ _ _ c.in-Written.at c.in-Written.tx _ _ _ _ told.0.1 told.0.0) c.go_on.ensures

pub returns-in-Written-clause-leads : goal.returns-in-Written-clause-leads
returns-in-Written-clause-leads g c = λ i ready next base told_base trace placed way.
    let told = c.in-Written.ensures.answers in
    let more : Insertions = record c.args.rest { ids = c.push_reserved.new.self } in
    let has : HasMore (record c.args.rest { ids = c.reserve.new.self }) (c.args.next.key ∷ []) [] more = record { all = refl; left = refl; ordered = refl; ids_are = c.push_reserved.ensures.items; errors_are = sym (append-nil c.args.rest.errors.items) } in
    let put = put_here base c.args.coll.now c.args.by c.args.next.doc c.args.store.now.journal c.write.new.self.journal c.in-Written.at c.in-Written.tx
    (told.0.1 ∙ ap (λ (t : Tree). c.args.store.now.journal ++ Changed c.args.by c.args.coll.now t (Insert c.args.next.doc) None c.in-Written.tx ∷ []) c.requires.id) told.0.0
    (subst (λ (t : Tree). number_at (replay base c.args.store.now.journal) c.args.coll.now t ≡ None) c.requires.id (told.2 base told_base).1) in
    on_leads i c.args.next.doc (record c.args.rest { ids = c.reserve.new.self }) ready (with_room i c.args.next.doc c.args.rest c.reserve.new.self c.reserve.ensures.items next) base c.args.coll.now c.args.by
    c.write.new.self.journal (sights c.args.store.now.journal trace) way (c.args.next.key ∷ []) [] more has (Wrote c.in-Written.at) (inl put) (ap (λ (t : Tree). t ∷ []) (sym c.requires.id)) refl c.go_on.result c.go_on.ensures

pub doubled-requires : goal.doubled-requires
doubled-requires g c = let f = found_one c.in-Lost.found c.in-Lost.ensures.answers.1 in subst (λ (o : Option ℕ). IsSome o) (sym f.1) refl

pub returns-in-Lost-clause-steps : goal.returns-in-Lost-clause-steps
returns-in-Lost-clause-steps g c = λ i ready next.
    let told = c.in-Lost.ensures.answers in
    let f = found_one c.in-Lost.found told.1 in
    doubled_steps i c.args.next.doc (record c.args.rest { ids = c.reserve.new.self }) ready (with_room i c.args.next.doc c.args.rest c.reserve.new.self c.reserve.ensures.items next) _ _ c.args.by c.args.store.now.journal c.write.new.self.journal (Lost c.in-Lost.at 0 (Some f.0)) (errors.already_exists c.args.next.key f.0) c.doubled.result told.0.1
    (lost_here c.args.by _ _ _ _ c.in-Lost.at 0 (Some f.0) told.0.1 told.0.0) (c.doubled.ensures f.0 f.1)

pub returns-in-Lost-clause-leads : goal.returns-in-Lost-clause-leads
returns-in-Lost-clause-leads g c = λ i ready next base told_base trace placed way.
    let told = c.in-Lost.ensures.answers in
    let f = found_one c.in-Lost.found told.1 in
    doubled_leads i c.args.next.doc (record c.args.rest { ids = c.reserve.new.self }) ready (with_room i c.args.next.doc c.args.rest c.reserve.new.self c.reserve.ensures.items next) base c.args.coll.now c.args.by c.write.new.self.journal (sights c.args.store.now.journal trace) way c.args.store.now.journal c.in-Lost.at f.0 c.args.next.key c.doubled.result
    c.requires.id told.0.1 told.0.0 ((told.2 base told_base).1 ∙ f.1) (c.doubled.ensures f.0 f.1)

pub returns-in-NoCollection-clause-steps : goal.returns-in-NoCollection-clause-steps
returns-in-NoCollection-clause-steps g c = λ i ready next.
    let told = c.in-NoCollection.ensures.answers in
    mark_steps i c.args.next.doc (record c.args.rest { ids = c.reserve.new.self }) ready (with_room i c.args.next.doc c.args.rest c.reserve.new.self c.reserve.ensures.items next) _ _ c.args.by c.args.store.now.journal c.write.new.self.journal c.in-NoCollection.at c.args.next.key (errors.no_collection c.args.coll.now) c.stopped_at.result told.0.1 told.0.0
    (c.stopped_at.ensures (errors.no_collection c.args.coll.now) (search rules))

pub returns-in-NoCollection-clause-leads : goal.returns-in-NoCollection-clause-leads
returns-in-NoCollection-clause-leads g c = λ i ready next base told_base trace placed way.
    let told = c.in-NoCollection.ensures.answers in
    mark_leads i c.args.next.doc (record c.args.rest { ids = c.reserve.new.self }) ready (with_room i c.args.next.doc c.args.rest c.reserve.new.self c.reserve.ensures.items next) base c.args.coll.now c.args.by c.write.new.self.journal (sights c.args.store.now.journal trace) way c.args.store.now.journal c.in-NoCollection.at c.args.next.key (errors.no_collection c.args.coll.now) c.stopped_at.result
    c.requires.id told.0.1 told.0.0 (inr ((λ e. gone_not_spent _ _ (c.in-NoCollection.ensures.spent (sym (c.journal_len.ensures.next base told_base) ∙ e))), told.1 base told_base, refl))
    (c.stopped_at.ensures (errors.no_collection c.args.coll.now) (search rules))

pub returns-in-VersionsSpent-clause-steps : goal.returns-in-VersionsSpent-clause-steps
returns-in-VersionsSpent-clause-steps g c = λ i ready next.
    let told = c.in-VersionsSpent.ensures.answers in
    mark_steps i c.args.next.doc (record c.args.rest { ids = c.reserve.new.self }) ready (with_room i c.args.next.doc c.args.rest c.reserve.new.self c.reserve.ensures.items next) _ _ c.args.by c.args.store.now.journal c.write.new.self.journal c.in-VersionsSpent.at c.args.next.key errors.versions_spent c.stopped_at-in-VersionsSpent.result told.0.1 told.0.0
    (c.stopped_at-in-VersionsSpent.ensures errors.versions_spent c.versions_spent.ensures)

pub returns-in-VersionsSpent-clause-leads : goal.returns-in-VersionsSpent-clause-leads
returns-in-VersionsSpent-clause-leads g c = λ i ready next base told_base trace placed way.
    let told = c.in-VersionsSpent.ensures.answers in
    mark_leads i c.args.next.doc (record c.args.rest { ids = c.reserve.new.self }) ready (with_room i c.args.next.doc c.args.rest c.reserve.new.self c.reserve.ensures.items next) base c.args.coll.now c.args.by c.write.new.self.journal (sights c.args.store.now.journal trace) way c.args.store.now.journal c.in-VersionsSpent.at c.args.next.key errors.versions_spent c.stopped_at-in-VersionsSpent.result
    c.requires.id told.0.1 told.0.0 (inl (c.journal_len.ensures.next base told_base ∙ told.1, refl)) (c.stopped_at-in-VersionsSpent.ensures errors.versions_spent c.versions_spent.ensures)

pub returns-in-Fault-clause-steps : goal.returns-in-Fault-clause-steps
returns-in-Fault-clause-steps g c = λ i ready next.
    let told = c.in-Fault.ensures.answers in
    stop_steps i c.args.next.doc (record c.args.rest { ids = c.reserve.new.self }) ready (with_room i c.args.next.doc c.args.rest c.reserve.new.self c.reserve.ensures.items next) _ _ c.args.by c.args.store.now.journal c.write.new.self.journal (λ z. z ≡ Faulted c.in-Fault.at c.in-Fault.before c.in-Fault.after) (errors.store_fault c.in-Fault.before c.in-Fault.after) c.failed_at.result
    (λ z is. subst (Made c.args.by _ _ _ _) (sym is) (failed_here c.args.by _ _ _ _ c.in-Fault.at c.in-Fault.before c.in-Fault.after told.entered told.point told.rose told.before_is told.count_is)) c.failed_at.ensures

pub returns-in-Fault-clause-leads : goal.returns-in-Fault-clause-leads
returns-in-Fault-clause-leads g c = λ i ready next base told_base trace placed way.
    let told = c.in-Fault.ensures.answers in
    fault_leads i c.args.next.doc (record c.args.rest { ids = c.reserve.new.self }) ready (with_room i c.args.next.doc c.args.rest c.reserve.new.self c.reserve.ensures.items next) base c.args.coll.now c.args.by c.write.new.self.journal (sights c.args.store.now.journal trace) way c.args.store.now.journal c.in-Fault.at c.in-Fault.before c.in-Fault.after c.failed_at.result
    told.entered told.point c.failed_at.ensures
