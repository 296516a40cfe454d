use Rattle.std.proofs.Common.{◌≡◌, ◌<◌, ◌^◌, ◌+◌, ◌∙◌, ◌++◌, ◌∷◌, [], refl, sym, ap, subst, List, Some, arith, rules}
use Rattle.std.specs.Prelude.{IfSome, Err}
use Rattle.col_keeper.specs.declared.answer.KeepFault.{KeepFault}
use Rattle.store_core.specs.Counts.{opened_in, writes_in}
use Rattle.store_core.specs.Store.{Stored, next_of}
use Rattle.store_core.specs.Outcomes.{fault_of}
use Rattle.store_core.specs.declared.entry.Entry.{Entry}
use Rattle.store_core.proofs.Histories.{told_at, fails_or_stays}
use Rattle.store_core.proofs.Looking.{look_shows, look_keyed}
use Rattle.store_core.proofs.store.Store.look_once.Goals as goal

pub invariant_of-self-in-Err-Failed : goal.invariant_of-self-in-Err-Failed
invariant_of-self-in-Err-Failed g c =
    let known : IfSome c.args.by (λ k. k < opened_in c.self.inside.journal.items) = subst (λ (s : Stored g.row.K.Denot). IfSome c.args.by (λ k. k < opened_in s.journal)) (sym c.self.view_is) c.requires.known in
    let journal : c.enter_fault.new.journal.items ≡ c.self.inside.journal.items ++ fault_of c.args.by c.faults-before.result c.faults-after.result =
    c.enter_fault.ensures.entered ∙ ap (λ (l : List Entry). l ++ fault_of c.args.by c.faults-before.result c.faults-after.result) c.reserve.ensures.items in
    let before : c.faults-before.result < 2 ^ 64 = search rules in
    let after : c.faults-after.result < 2 ^ 64 = search rules in
    fails_or_stays _ _ _ _ _ _ c.self.invariant.0 _ _ _ c.self.invariant.1 _ _ _ c.args.by c.faults-before.result c.faults-after.result _
    known c.faults-before.ensures.count c.faults-after.ensures.count (rw (c.faults-before.ensures.count, c.faults-after.ensures.count) (c.in-Err-Failed.ensures.failed (ap (λ (e : KeepFault). Err e) c.in-Err-Failed.field-0-is))) before after c.in-Err-Failed.ensures.kept c.in-Err-Failed.ensures.grows journal c.enter_fault.ensures.size

pub returns-in-Ok-clause-answers : goal.returns-in-Ok-clause-answers
returns-in-Ok-clause-answers g c = (
  (search rules, search rules),
  search rules,
  rw (← c.self.view_is) (λ b e.
      let told = told_at _ _ _ _ _ _ c.self.invariant.0 b e in
      let shows = look_shows _ _ _ (c.in-Ok.ensures.answers _ told) in
      (shows.0, shows.1, look_keyed _ _ _ _ _ c.value.ensures.id.0 c.ids_are_ordered.ensures.apart (c.faults-before.ensures.sound _ told).rows shows.1)),
)
