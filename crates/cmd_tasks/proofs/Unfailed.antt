-- What a request does next is no failed call; one stops it, and has its entry.
use Rattle.std.proofs.Common.{◌≡◌, ◌⊎◌, ℕ, List, [], ◌∷◌, length, Option, Some, None, sym, subst, inl, inr}
use Rattle.std.specs.Prelude.{MatchOption}
use Rattle.std.specs.List.{AllByRecursion as Each}
use Rattle.json_tree.specs.Tree.{Tree}
use Rattle.shred_cols.specs.Rows.{Rows}
use Rattle.col_keeper.specs.Tables.{Name}
use Rattle.filter_tree.specs.Filters.{FilterTree}
use Rattle.view_sort.specs.Sort.{SortKeys}
use Rattle.reply_env.specs.declared.reply.ErrorItem.{ErrorItem}
use Rattle.store_core.specs.State.{State as Base}
use Rattle.store_core.specs.declared.entry.Change.{Change}
use Rattle.cmd_tasks.specs.Trace.{Sight, Found, next_from, rows_now, Looks, IsLook}
use Rattle.cmd_tasks.specs.Attempts.{IsWon, IsLost, IsAttempt}
use Rattle.cmd_tasks.specs.Doing.{Doing}
use Rattle.cmd_tasks.specs.Jobs.{Job, inserts, finds_one, finds, counts, changes_one, changes_many, creates, drops, names}
use Rattle.cmd_tasks.specs.Insertions.{IsInsertion, next_document}
use Rattle.cmd_tasks.specs.Taking.{Turn, looks_on, looks_again, attempts, inserts as puts, is_done, is_put, is_taken, is_refused, gives_up}
use Rattle.cmd_tasks.specs.Turns.{LooksAlone, Follows}
use Rattle.cmd_tasks.specs.Served.{round, IsMark, IsMade, IsThere, IsOneTooMany, IsDropped, IsAbsent, chosen, insertion, HasChange, NextOne, many_turn, Stops, Marks, IsToWrite, Next, IsPartOf, IsStopped}
use Rattle.cmd_tasks.specs.Undisturbed.{IsNoFailedCall}
use Rattle.cmd_tasks.specs.declared.trace.Item.{Item}
use Rattle.cmd_tasks.specs.declared.trace.Item.TheVariants.{Looked, Wrote, Lost, Faulted}
use Rattle.cmd_tasks.proofs.Calm.{HasNoFault}
use Rattle.cmd_tasks.proofs.Smooth.{match_out}

module _ (base : Base) (coll : Name) (k : ℕ) where
  abbrev Passed : Sight → Type 0
  Passed s = IsNoFailedCall s.item

  passed_as : (s : Sight) (i : Item) → s.item ≡ i → IsNoFailedCall i → Passed s
  passed_as s i e h = subst IsNoFailedCall (sym e) h

  looks_passed : (f : FilterTree) (r : Rows) (from : Option Tree) (i : Item) → Looks base coll f r from i → IsNoFailedCall i
  looks_passed f r from (Looked at after up_to shown) h = tt
  looks_passed f r from (Wrote at) h = tt
  looks_passed f r from (Lost at read found) h = tt
  looks_passed f r from (Faulted at before count) h = h

  look_passed : (f : FilterTree) (from : Option Tree) (s : Sight) → IsLook base coll f from s → Passed s
  look_passed f from s h = looks_passed f (rows_now base coll s) from s.item h.1

  alone_passed : (id : Tree) (xs : List Found) (i : Item) → LooksAlone id xs i → IsNoFailedCall i
  alone_passed id xs (Looked at after up_to shown) h = tt
  alone_passed id xs (Wrote at) h = tt
  alone_passed id xs (Lost at read found) h = tt
  alone_passed id xs (Faulted at before count) h = h

  mark_passed : (i : Item) → IsMark i → IsNoFailedCall i
  mark_passed (Looked at after up_to shown) h = tt
  mark_passed (Wrote at) h = tt
  mark_passed (Lost at read found) h = tt
  mark_passed (Faulted at before count) h = h

  insertion_passed : (d : Tree) (s : Sight) → IsInsertion base coll k d s → Passed s
  insertion_passed d s (inl h) = passed_as s (Wrote (length s.past)) h.wrote.0 tt
  insertion_passed d s (inr h) = passed_as s (Lost (length s.past) 0 (Some h.0)) h.1.item tt

  change_passed : (look : Sight) (x : Found) (change : Change) (s : Sight) → IsWon base coll k x change s ⊎ IsLost base coll k look x s → Passed s
  change_passed look x change s (inl h) = passed_as s (Wrote (length s.past)) h.wrote.0 tt
  change_passed look x change s (inr h) = passed_as s (Lost (length s.past) x.tx h.found) h.item tt

  made_passed : (s : Sight) → IsMade base coll k s ⊎ (IsThere base coll k s ⊎ IsOneTooMany base coll k s) → Passed s
  made_passed s (inl h) = passed_as s (Wrote (length s.past)) h.0 tt
  made_passed s (inr (inl h)) = mark_passed s.item h.0
  made_passed s (inr (inr h)) = mark_passed s.item h.0

  dropped_passed : (s : Sight) → IsDropped base coll k s ⊎ IsAbsent base coll k s → Passed s
  dropped_passed s (inl h) = passed_as s (Wrote (length s.past)) h.0 tt
  dropped_passed s (inr h) = mark_passed s.item h.0

  module _ (f : FilterTree) (sort : SortKeys) (doing : Doing) where
    attempt_passed : (sights : List Sight) (s : Sight) (x : Found) → HasChange base coll k f sort doing x (λ change. IsAttempt base coll k f change (round sights) x s) → Passed s
    attempt_passed sights s x (change, is, (look, among, shown, made)) = change_passed look x change s made

    unchosen_passed : (sights : List Sight) (s : Sight) → MatchOption (insertion base coll k f sort doing sights) (IsLook base coll f (next_from None (round sights)) s) (λ d. IsInsertion base coll k d s) → Passed s
    unchosen_passed sights s h =
        match_out (insertion base coll k f sort doing sights) (IsLook base coll f (next_from None (round sights)) s) (λ d. IsInsertion base coll k d s) (Passed s)
        (λ e l. look_passed f (next_from None (round sights)) s l) (λ d e i. insertion_passed d s i) h

    one_passed : (sights : List Sight) (s : Sight) → NextOne base coll k f sort doing sights s → Passed s
    one_passed sights s h =
        match_out (chosen base coll k f sort sights)
        (MatchOption (insertion base coll k f sort doing sights) (IsLook base coll f (next_from None (round sights)) s) (λ d. IsInsertion base coll k d s))
        (λ x. HasChange base coll k f sort doing x (λ change. IsAttempt base coll k f change (round sights) x s)) (Passed s)
        (λ e l. unchosen_passed sights s l) (λ x e c. attempt_passed sights s x c) h

  follows_passed : (f : FilterTree) (t : Turn) (s : Sight) → Follows base coll k f t s → Passed s
  follows_passed f (looks_on from) s h = look_passed f from s h.0
  follows_passed f (looks_again id) s h = alone_passed id _ s.item h.1
  follows_passed f (attempts q change) s h = change_passed q.look q.x change s h
  follows_passed f (puts d) s h = insertion_passed d s h
  follows_passed f (is_done more) s h = absurd h
  follows_passed f (is_put d) s h = absurd h
  follows_passed f (is_taken d tx) s h = absurd h
  follows_passed f (is_refused fault) s h = absurd h
  follows_passed f gives_up s h = absurd h

  next_passed : (job : Job) (sights : List Sight) (s : Sight) → Next base coll k job sights s → Passed s
  next_passed (inserts ds ordered) sights s h = match_out (next_document ds ordered sights) ⊥ (λ d. IsInsertion base coll k d s) (Passed s) (λ e l. absurd l) (λ d e i. insertion_passed d s i) h
  next_passed (finds_one f sort p) sights s h = look_passed f _ s h
  next_passed (finds f sort look p) sights s h = look_passed f _ s h
  next_passed (counts f) sights s h = look_passed f _ s h
  next_passed (changes_one f sort doing form) sights s h = one_passed f sort doing sights s h
  next_passed (changes_many f doing page) sights s h = follows_passed f (many_turn base coll k f doing page sights) s h
  next_passed creates sights s h = made_passed s h
  next_passed drops sights s h = dropped_passed s h
  next_passed names sights s h = mark_passed s.item h

  pub part_passed : (job : Job) (sights : List Sight) → IsPartOf base coll k job sights → Each Passed sights
  part_passed job [] part = tt
  part_passed job (s ∷ earlier) part = (next_passed job earlier s part.2, part_passed job earlier part.0)

  stop_passed : (marks : Option Tree → Option Tree → Type 0) (to_write : Type 0) (s : Sight) (error : ErrorItem) (i : Item) → HasNoFault s → Stops base coll k marks to_write i s error → IsNoFailedCall i
  stop_passed marks to_write s error (Looked at after up_to shown) none h = tt
  stop_passed marks to_write s error (Wrote at) none h = tt
  stop_passed marks to_write s error (Lost at read found) none h = tt
  stop_passed marks to_write s error (Faulted at before count) none h = none k before count h.0

  pub stopped_passed : (job : Job) (sights : List Sight) (error : ErrorItem) → Each HasNoFault sights → IsStopped base coll k job sights error → Each Passed sights
  stopped_passed job [] error none h = absurd h
  stopped_passed job (s ∷ earlier) error none h = (stop_passed (Marks base coll k job earlier) (IsToWrite base coll k job earlier) s error s.item none.0 h.2, part_passed job earlier h.0)
