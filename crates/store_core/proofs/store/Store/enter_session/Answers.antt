use Rattle.std.proofs.Common.{◌≡◌, ◌∙◌, ◌++◌, ◌∷◌, [], refl, ap, arith, List, length, rules}
use Rattle.store_core.proofs.Histories.{opens_so, opened_le}
use Rattle.store_core.specs.declared.entry.Entry.{Entry}
use Rattle.store_core.specs.declared.entry.Entry.TheVariants.{Opened}
use Rattle.store_core.proofs.store.Store.enter_session.Goals as goal

pub overflow_add-self : goal.overflow_add-self
overflow_add-self g c =
    let journal : c.enter.new.journal.items ≡ c.self.inside.journal.items ++ Opened c.self.inside.sessions ∷ [] = c.enter.ensures.entered ∙ ap (λ (l : List Entry). l ++ Opened c.self.inside.sessions ∷ []) c.reserve.ensures.items in
    let all = opens_so _ _ _ _ _ _ c.self.invariant.0 _ _ _ c.self.invariant.1 c.enter.new.journal.items _ _ c.self.inside.sessions refl _ _ refl refl refl journal c.enter.ensures.size in
    let counts = all.1 in
    let sessions = counts.sessions_are in
    let le = opened_le c.enter.new.journal.items in
    let len : length c.enter.new.journal.items ≡ c.len-len.result = search rules in
    omega (arith, sessions, c.len-len.type_inv)

pub invariant_of-self-2 : goal.invariant_of-self-2
invariant_of-self-2 g c =
    let journal : c.enter.new.journal.items ≡ c.self.inside.journal.items ++ Opened c.self.inside.sessions ∷ [] = c.enter.ensures.entered ∙ ap (λ (l : List Entry). l ++ Opened c.self.inside.sessions ∷ []) c.reserve.ensures.items in
    opens_so _ _ _ _ _ _ c.self.invariant.0 _ _ _ c.self.invariant.1 c.enter.new.journal.items _ _ c.self.inside.sessions refl _ _ refl refl refl journal c.enter.ensures.size
