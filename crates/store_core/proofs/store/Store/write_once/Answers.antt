use Rattle.std.proofs.Common.{◌≡◌, ◌<◌, ◌^◌, ◌+◌, ◌∙◌, ◌++◌, ◌∷◌, [], refl, sym, ap, subst, List, Some, arith, rules}
use Rattle.std.specs.Prelude.{IfSome, Err}
use Rattle.col_keeper.specs.declared.answer.KeepFault.{KeepFault}
use Rattle.store_core.specs.Counts.{opened_in, writes_in}
use Rattle.std.specs.Option.{ForSome}
use Rattle.store_core.specs.State.{version}
use Rattle.store_core.specs.Journal.{IsMadeOfRead, replay}
use Rattle.store_core.specs.Store.{Stored, next_of, told_start}
use Rattle.store_core.specs.Outcomes.{fault_of}
use Rattle.store_core.specs.declared.entry.Entry.{Entry}
use Rattle.store_core.specs.declared.entry.Entry.TheVariants.{Changed}
use Rattle.store_core.proofs.Histories.{last_below, wrote_so, fails_or_stays}
use Rattle.store_core.proofs.store.Store.write_once.Goals as goal

pub keep-requires-clause-next : goal.keep-requires-clause-next
keep-requires-clause-next g c = λ t told.
    let b = last_below _ _ _ _ _ _ c.self.invariant.0 t told in
    let number : c.args.tx ≡ c.self.inside.first + writes_in c.self.inside.journal.items = subst (λ (s : Stored g.row.K.Denot). c.args.tx ≡ next_of s) (sym c.self.view_is) c.requires.next in
    omega arith

pub invariant_of-self-in-Done : goal.invariant_of-self-in-Done
invariant_of-self-in-Done g c =
    let known : c.args.by < opened_in c.self.inside.journal.items = subst (λ (s : Stored g.row.K.Denot). c.args.by < opened_in s.journal) (sym c.self.view_is) c.requires.known in
    let number : c.args.tx ≡ c.self.inside.first + writes_in c.self.inside.journal.items = subst (λ (s : Stored g.row.K.Denot). c.args.tx ≡ next_of s) (sym c.self.view_is) c.requires.next in
    let made : ForSome (told_start g.K.Keeper.tables g.K.Keeper.failed c.self.inside.base.value) (λ b. IsMadeOfRead c.args.change c.args.read (version (replay b c.self.inside.journal.items) c.args.coll.now c.args.id.now)) = subst (λ (s : Stored g.row.K.Denot). ForSome s.start (λ b. IsMadeOfRead c.args.change c.args.read (version (replay b s.journal) c.args.coll.now c.args.id.now))) (sym c.self.view_is) c.requires.made in
    let journal : c.enter.new.journal.items ≡ c.self.inside.journal.items ++ Changed c.args.by c.args.coll.now c.args.id.now c.args.change c.args.read c.args.tx ∷ [] =
    c.enter.ensures.entered
    ∙ ap (λ (e : Entry). c.reserve.new.self.items ++ e ∷ []) c.changed-entry.ensures
    ∙ ap (λ (l : List Entry). l ++ Changed c.args.by c.in-Ok-Ok.name c.in-Ok-Ok.key c.args.change c.args.read c.args.tx ∷ []) c.reserve.ensures.items
    ∙ (λ i. c.self.inside.journal.items ++ Changed c.args.by (c.in-Ok-Ok.ensures.ok i) (c.in-Ok-Ok.ensures'.ok i) c.args.change c.args.read c.args.tx ∷ []) in
    wrote_so _ _ _ _ _ _ c.self.invariant.0 _ _ _ c.self.invariant.1 _ _ _ c.args.by c.args.coll.now c.args.id.now c.args.change c.args.read c.args.tx _ _ c.text_size_of-text.result
    known number c.requires.left c.requires.new c.requires.read made (c.in-Done.ensures.done refl) c.in-Done.ensures.answers c.keep.ensures.grows journal refl c.text_size_of-text.ensures c.enter.ensures.size

pub invariant_of-self-in-Failed : goal.invariant_of-self-in-Failed
invariant_of-self-in-Failed g c =
    let known : c.args.by < opened_in c.self.inside.journal.items = subst (λ (s : Stored g.row.K.Denot). c.args.by < opened_in s.journal) (sym c.self.view_is) c.requires.known in
    let journal : c.enter_fault.new.journal.items ≡ c.self.inside.journal.items ++ fault_of (Some c.args.by) c.faults-before.result c.faults-after.result =
    c.enter_fault.ensures.entered ∙ ap (λ (l : List Entry). l ++ fault_of (Some c.args.by) c.faults-before.result c.faults-after.result) c.reserve.ensures.items in
    let before : c.faults-before.result < 2 ^ 64 = search rules in
    let after : c.faults-after.result < 2 ^ 64 = search rules in
    fails_or_stays _ _ _ _ _ _ c.self.invariant.0 _ _ _ c.self.invariant.1 _ _ _ (Some c.args.by) c.faults-before.result c.faults-after.result _
    known c.faults-before.ensures.count c.faults-after.ensures.count (rw (c.faults-before.ensures.count, c.faults-after.ensures.count) (c.in-Failed.ensures.failed refl)) before after (c.in-Failed.ensures.kept (λ e. cc)) c.keep.ensures.grows journal c.enter_fault.ensures.size
