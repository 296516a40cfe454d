-- Which turn of a command that takes many documents comes next, by where it stands.
use Rattle.std.proofs.Common.{◌≡◌, ℕ, ◌<◌, ◌≤◌, List, [], ◌∷◌, length, Bool, true, false, Option, Some, None, Result, Ok, Err, refl, ap, ◌∙◌, arith}
use Rattle.std.specs.Prelude.{nat_lt, if◌then◌else◌}
use Rattle.std.proofs.lemmas.Bool.{lt-ltb, le-ltb, ltb-false}
use Rattle.json_tree.specs.Tree.{Tree}
use Rattle.update_ops.specs.declared.fault.UpdateFault.{UpdateFault}
use Rattle.store_core.specs.declared.entry.Change.{Change}
use Rattle.cmd_tasks.specs.Doing.{Doing, change_of}
use Rattle.cmd_tasks.specs.Taking.{Shown, Standing, Put, not_put, was_put, was_taken, Turn, looks_on, looks_again, attempts, inserts, is_done, is_put, is_taken, is_refused, gives_up, take_with, turn_put, turn_again, turn_whole, turn_on, turn_of, turn}

-- nothing waits, all is listed, and none was counted
pub record IsAtEnd (st : Standing) : Type 0 where
  pub first_time : st.again ≡ false
  pub queue : st.queue ≡ []
  pub whole : st.is_whole ≡ true
  pub none : st.matched ≡ 0

pub none_counted : (n : ℕ) → nat_lt 0 n ≡ false → n ≡ 0
none_counted n e = let l = ltb-false 0 n e in omega (arith, l)

module _ (up : Option (Result Tree UpdateFault)) (doing : Doing) (st : Standing) where
  abbrev next : Turn
  next = turn up doing st

  first_turn : (q : List Shown) → st.again ≡ false → st.queue ≡ q → next ≡ turn_on up doing q st
  first_turn q first e = ap (λ (b : Bool). turn_of up b doing st) first ∙ ap (λ (l : List Shown). turn_on up doing l st) e

  -- ---- some wait

  pub full_turn : (t : Shown) (rest : List Shown) → st.again ≡ false → st.queue ≡ t ∷ rest → 20 ≤ st.matched → next ≡ is_done true
  full_turn t rest first e full = first_turn (t ∷ rest) first e ∙ ap (λ (b : Bool). if b then take_with t (change_of doing t.x.doc) else is_done true) (le-ltb st.matched 20 full)

  takes_turn : (t : Shown) (rest : List Shown) → st.again ≡ false → st.queue ≡ t ∷ rest → st.matched < 20 → next ≡ take_with t (change_of doing t.x.doc)
  takes_turn t rest first e few = first_turn (t ∷ rest) first e ∙ ap (λ (b : Bool). if b then take_with t (change_of doing t.x.doc) else is_done true) (lt-ltb st.matched 20 few)

  pub trying_turn : (t : Shown) (rest : List Shown) (change : Change) → st.again ≡ false → st.queue ≡ t ∷ rest → st.matched < 20 → change_of doing t.x.doc ≡ Ok (Some change) → next ≡ attempts t change
  trying_turn t rest change first e few is = takes_turn t rest first e few ∙ ap (take_with t) is

  pub refused_turn : (t : Shown) (rest : List Shown) (fault : UpdateFault) → st.again ≡ false → st.queue ≡ t ∷ rest → st.matched < 20 → change_of doing t.x.doc ≡ Err fault → next ≡ is_refused fault
  refused_turn t rest fault first e few is = takes_turn t rest first e few ∙ ap (take_with t) is

  again_turn : (t : Shown) (rest : List Shown) → st.again ≡ true → st.queue ≡ t ∷ rest → next ≡ turn_again (t ∷ rest) st
  again_turn t rest again e = ap (λ (b : Bool). turn_of up b doing st) again ∙ ap (λ (q : List Shown). turn_again q st) e

  pub retrying_turn : (t : Shown) (rest : List Shown) → st.again ≡ true → st.queue ≡ t ∷ rest → length st.losses < 4 → next ≡ looks_again t.x.id
  retrying_turn t rest again e few = again_turn t rest again e ∙ ap (λ (b : Bool). if b then looks_again t.x.id else gives_up) (lt-ltb (length st.losses) 4 few)

  pub lost_turn : (t : Shown) (rest : List Shown) → st.again ≡ true → st.queue ≡ t ∷ rest → 4 ≤ length st.losses → next ≡ gives_up
  lost_turn t rest again e many = again_turn t rest again e ∙ ap (λ (b : Bool). if b then looks_again t.x.id else gives_up) (le-ltb (length st.losses) 4 many)

  -- ---- none waits

  end_turn : (b : Bool) → st.again ≡ false → st.queue ≡ [] → st.is_whole ≡ b → next ≡ (if b then turn_whole up st else looks_on st.from)
  end_turn b first e is = first_turn [] first e ∙ ap (λ (w : Bool). if w then turn_whole up st else looks_on st.from) is

  pub paging_turn : st.again ≡ false → st.queue ≡ [] → st.is_whole ≡ false → next ≡ looks_on st.from
  paging_turn first e unended = end_turn false first e unended

  put_turn : (p : Put) → IsAtEnd st → st.put ≡ p → next ≡ turn_put p up
  put_turn p is e =
      end_turn true is.first_time is.queue is.whole
      ∙ (ap (λ (b : Bool). if b then is_done false else turn_put st.put up) (ap (nat_lt 0) is.none) ∙ ap (λ (z : Put). turn_put z up) e)

  by_due : (p : Put) (o : Option (Result Tree UpdateFault)) → IsAtEnd st → st.put ≡ p → up ≡ o → next ≡ turn_put p o
  by_due p o is e due = put_turn p is e ∙ ap (turn_put p) due

  pub inserts_turn : (d : Tree) → IsAtEnd st → st.put ≡ not_put → up ≡ Some (Ok d) → next ≡ inserts d
  inserts_turn d is e due = by_due not_put (Some (Ok d)) is e due

  pub unmade_turn : (fault : UpdateFault) → IsAtEnd st → st.put ≡ not_put → up ≡ Some (Err fault) → next ≡ is_refused fault
  unmade_turn fault is e due = by_due not_put (Some (Err fault)) is e due

  pub was_put_turn : (d : Tree) → IsAtEnd st → st.put ≡ was_put → up ≡ Some (Ok d) → next ≡ is_put d
  was_put_turn d is e due = by_due was_put (Some (Ok d)) is e due

  pub was_taken_turn : (d : Tree) (tx : ℕ) → IsAtEnd st → st.put ≡ was_taken (Some tx) → up ≡ Some (Ok d) → next ≡ is_taken d tx
  was_taken_turn d tx is e due = by_due (was_taken (Some tx)) (Some (Ok d)) is e due

  -- ---- where an insertion comes next

  pub record IsToPut (d : Tree) : Type 0 where
    pub at_end : IsAtEnd st
    pub unput : st.put ≡ not_put
    pub due : up ≡ Some (Ok d)

  pub to_put : (d : Tree) → next ≡ inserts d → IsToPut d
  to_put d h = by_again st.again refl h
    where
      by_up : IsAtEnd st → (p : Put) → st.put ≡ p → (o : Option (Result Tree UpdateFault)) → up ≡ o → turn_put p o ≡ inserts d → IsToPut d
      by_up is not_put unput None due h = cc
      by_up is not_put unput (Some (Ok new)) due h = record { at_end = is; unput = unput; due = due ∙ ap (λ (z : Tree). Some (Ok z)) (same new h) }
        where
          same : (new : Tree) → inserts new ≡ inserts d → new ≡ d
          same new e = cc
      by_up is not_put unput (Some (Err fault)) due h = cc
      by_up is was_put unput None due h = cc
      by_up is was_put unput (Some (Ok new)) due h = cc
      by_up is was_put unput (Some (Err fault)) due h = cc
      by_up is (was_taken None) unput None due h = cc
      by_up is (was_taken None) unput (Some o) due h = cc
      by_up is (was_taken (Some tx)) unput None due h = cc
      by_up is (was_taken (Some tx)) unput (Some (Ok new)) due h = cc
      by_up is (was_taken (Some tx)) unput (Some (Err fault)) due h = cc

      by_matched : st.again ≡ false → st.queue ≡ [] → st.is_whole ≡ true → (b : Bool) → nat_lt 0 st.matched ≡ b → (if b then is_done false else turn_put st.put up) ≡ inserts d → IsToPut d
      by_matched first e whole true some h = cc
      by_matched first e whole false none h = by_up (record { first_time = first; queue = e; whole = whole; none = none_counted st.matched none }) st.put refl up refl h

      by_end : st.again ≡ false → st.queue ≡ [] → (b : Bool) → st.is_whole ≡ b → (if b then turn_whole up st else looks_on st.from) ≡ inserts d → IsToPut d
      by_end first e true whole h = by_matched first e whole (nat_lt 0 st.matched) refl h
      by_end first e false unended h = cc

      by_change : (t : Shown) (r : Result (Option Change) UpdateFault) → take_with t r ≡ inserts d → IsToPut d
      by_change t (Ok (Some change)) h = cc
      by_change t (Ok None) h = cc
      by_change t (Err fault) h = cc

      by_count : (t : Shown) (b : Bool) → (if b then take_with t (change_of doing t.x.doc) else is_done true) ≡ inserts d → IsToPut d
      by_count t true h = by_change t (change_of doing t.x.doc) h
      by_count t false h = cc

      by_queue : st.again ≡ false → (q : List Shown) → st.queue ≡ q → turn_on up doing q st ≡ inserts d → IsToPut d
      by_queue first [] e h = by_end first e st.is_whole refl h
      by_queue first (t ∷ rest) e h = by_count t (nat_lt st.matched 20) h

      by_losses : (t : Shown) (b : Bool) → (if b then looks_again t.x.id else gives_up) ≡ inserts d → IsToPut d
      by_losses t true h = cc
      by_losses t false h = cc

      by_queue_again : (q : List Shown) → turn_again q st ≡ inserts d → IsToPut d
      by_queue_again [] h = cc
      by_queue_again (t ∷ rest) h = by_losses t (nat_lt (length st.losses) 4) h

      by_again : (b : Bool) → st.again ≡ b → turn_of up b doing st ≡ inserts d → IsToPut d
      by_again true again h = by_queue_again st.queue h
      by_again false first h = by_queue first st.queue refl h
