-- What became of the document that is inserted where a command that takes many documents counted none.
use Rattle.std.proofs.Common.{◌≡◌, ◌⊎◌, ℕ, zero, List, [], ◌∷◌, false, true, Option, Some, None, Result, Ok, refl, sym, ap, ◌∙◌, subst, ⊎_elim, inl, inr}
use Rattle.json_tree.specs.Tree.{Tree}
use Rattle.col_keeper.specs.Tables.{Name}
use Rattle.filter_tree.specs.Filters.{FilterTree}
use Rattle.update_ops.specs.declared.fault.UpdateFault.{UpdateFault}
use Rattle.store_core.specs.State.{State as Base}
use Rattle.cmd_tasks.specs.Trace.{Sight}
use Rattle.cmd_tasks.specs.Doing.{Doing}
use Rattle.cmd_tasks.specs.Taking.{Standing, Put, not_put, was_put, was_taken, standing, Turn, turn}
use Rattle.cmd_tasks.specs.Taking as turns
use Rattle.cmd_tasks.specs.Turns.{IsOn, Follows}
use Rattle.cmd_tasks.specs.Tally.{IsPut}
use Rattle.cmd_tasks.proofs.Turnings.{IsAtEnd, IsToPut, was_put_turn, was_taken_turn}
use Rattle.cmd_tasks.proofs.Stepping.{PutBy, IsPaged, IsRelooked, IsWritten, IsBeaten, IsPutting, steps}
use Rattle.cmd_tasks.proofs.Accepted.{AreSteps}

module _ (base : Base) (coll : Name) (k : ℕ) (f : FilterTree) (doing : Doing) (up : Option (Result Tree UpdateFault)) where
  -- it was inserted
  pub record WasPut (sights : List Sight) (st : Standing) : Type 0 where
    pub at_end : IsAtEnd st
    pub put : st.put ≡ was_put
    pub d : Tree
    pub due : up ≡ Some (Ok d)
    pub is : IsPut base coll k sights d

  -- its id was there
  pub record WasTaken (st : Standing) : Type 0 where
    pub at_end : IsAtEnd st
    pub tx : ℕ
    pub put : st.put ≡ was_taken (Some tx)
    pub d : Tree
    pub due : up ≡ Some (Ok d)

  abbrev pub PutSo : List Sight → Standing → Type 0
  PutSo sights st = (st.put ≡ not_put) ⊎ (WasPut sights st ⊎ WasTaken st)

  -- a turn that goes on comes before any insertion
  pub unput_before : (P : Turn → Type 0) → ((d : Tree) → P (turns.is_put d) → ⊥) → ((d : Tree) (tx : ℕ) → P (turns.is_taken d tx) → ⊥) → (sights : List Sight) (st : Standing) → PutSo sights st → P (turn up doing st) → st.put ≡ not_put
  unput_before P no_put no_taken sights st so h = ⊎_elim
      (λ (unput : st.put ≡ not_put). unput)
      (λ over. ⊎_elim
      (λ (w : WasPut sights st). absurd (no_put w.d (subst P (was_put_turn up doing st w.d w.at_end w.put w.due) h)))
      (λ (w : WasTaken st). absurd (no_taken w.d w.tx (subst P (was_taken_turn up doing st w.d w.tx w.at_end w.put w.due) h)))
      over)
      so

  pub unput_on : (sights : List Sight) (st : Standing) → PutSo sights st → IsOn (turn up doing st) → st.put ≡ not_put
  unput_on sights st so h = unput_before IsOn (λ d z. z) (λ d tx z. z) sights st so h

  module _ (from : Option Tree) where
    abbrev at : List Sight → Standing
    at sights = standing base coll f doing from sights

    after_put : (s : Sight) (earlier : List Sight) (st new : Standing) (d : Tree) → IsToPut up doing st d → (p : Put) → PutBy base coll k f doing p d s → new ≡ record st { queue = []; put = p } → PutSo (s ∷ earlier) new
    after_put s earlier st new d is not_put by new_is = absurd by
    after_put s earlier st new d is was_put by new_is = subst (PutSo (s ∷ earlier)) (sym new_is)
        (inr (inl (record { at_end = record { first_time = is.at_end.first_time; queue = refl; whole = is.at_end.whole; none = is.at_end.none }; put = refl; d = d; due = is.due; is = (s, (zero, refl), by) })))
    after_put s earlier st new d is (was_taken None) by new_is = absurd by
    after_put s earlier st new d is (was_taken (Some tx)) by new_is = subst (PutSo (s ∷ earlier)) (sym new_is)
        (inr (inr (record { at_end = record { first_time = is.at_end.first_time; queue = refl; whole = is.at_end.whole; none = is.at_end.none }; tx = tx; put = refl; d = d; due = is.due })))

    pub put_so : (sights : List Sight) → AreSteps base coll k f doing up from sights → PutSo sights (at sights)
    put_so [] h = inl refl
    put_so (s ∷ earlier) h =
        let st : Standing = at earlier in
        let new : Standing = at (s ∷ earlier) in
        let unput : st.put ≡ not_put = unput_before (λ (t : Turn). Follows base coll k f t s) (λ d z. z) (λ d tx z. z) earlier st (put_so earlier h.0) h.1 in
        ⊎_elim
        (λ (p : IsPaged base coll k f doing s st new). inl (p.put_is ∙ unput))
        (λ more. ⊎_elim
        (λ (p : IsRelooked base coll k f doing s st new). inl (p.put_is ∙ unput))
        (λ more. ⊎_elim
        (λ (p : IsWritten base coll k f doing s st new). inl (p.put_is ∙ unput))
        (λ more. ⊎_elim
        (λ (p : IsBeaten base coll k f doing s st new). inl (p.put_is ∙ unput))
        (λ (p : IsPutting base coll k f doing up s st new). after_put s earlier st new p.d p.to_put p.p p.by p.new_is)
        more)
        more)
        more)
        (steps base coll k f doing up s st h.1)
