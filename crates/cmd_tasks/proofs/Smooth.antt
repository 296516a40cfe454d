-- Where nobody else wrote behind a session's opening, no write of its requests is lost to another.
use Rattle.std.proofs.Common.{◌≡◌, ◌⊎◌, ℕ, ◌≤◌, List, [], ◌∷◌, ◌++◌, length, Bool, true, false, Option, Some, None, Result, Ok, Err, refl, sym, ap, ◌∙◌, subst, inl, inr}
use Rattle.std.specs.Prelude.{MatchOption, nat_lt, ◌&&◌, if◌then◌else◌}
use Rattle.std.specs.List.{AllByRecursion as Each}
use Rattle.json_tree.specs.Tree.{Tree}
use Rattle.shred_cols.specs.Rows.{Rows}
use Rattle.col_keeper.specs.Tables.{Name}
use Rattle.filter_tree.specs.Filters.{FilterTree}
use Rattle.update_ops.specs.declared.fault.UpdateFault.{UpdateFault}
use Rattle.view_sort.specs.Sort.{SortKeys}
use Rattle.view_sort.specs.declared.page.PageState.{PageState}
use Rattle.reply_env.specs.declared.reply.ErrorItem.{ErrorItem}
use Rattle.store_core.specs.State.{State as Base}
use Rattle.store_core.specs.declared.entry.Change.{Change}
use Rattle.cmd_tasks.specs.Trace.{Sight, Found, next_from, rows_now, shown_by, Looks, IsLook}
use Rattle.cmd_tasks.specs.Attempts.{IsWon, IsLost, IsAttempt}
use Rattle.cmd_tasks.specs.Doing.{Doing, change_of}
use Rattle.cmd_tasks.specs.Jobs.{Job, Form, inserts, finds_one, finds, counts, changes_one, changes_many, creates, drops, names}
use Rattle.cmd_tasks.specs.Insertions.{IsInsertion, next_document}
use Rattle.cmd_tasks.specs.Taking.{Shown, Standing, Put, not_put, was_put, was_taken, count, is_unchanged, settled, settle, shown_with, win, lose, list_on, with_look, with_item, Turn, looks_on, looks_again, attempts, inserts as puts, is_done, is_put, is_taken, is_refused, gives_up, take_with, turn_put, turn_whole, turn_on, turn_of, turn}
use Rattle.cmd_tasks.specs.Turns.{LooksAlone, Follows, upsert_for}
use Rattle.cmd_tasks.specs.Served.{lost_by, losses, round, round_with, IsMark, IsMade, IsThere, IsOneTooMany, IsDropped, IsAbsent, chosen, insertion, put_last, HasChange, NextOne, many_standing, many_turn, Stops, Marks, IsToWrite, Next, IsPartOf, IsStopped}
use Rattle.cmd_tasks.specs.Undisturbed.{IsUnlostAs, IsUnlost}
use Rattle.cmd_tasks.specs.declared.trace.Item.{Item}
use Rattle.cmd_tasks.specs.declared.trace.Item.TheVariants.{Looked, Wrote, Lost, Faulted}
use Rattle.cmd_tasks.proofs.Calm.{IsCalm, lost_none, each_append, each_at}

pub match_out : {A : Type 0} (o : Option A) (P : Type 0) (Q : A → Type 0) (R : Type 0) → (o ≡ None → P → R) → ((a : A) → o ≡ Some a → Q a → R) → MatchOption o P Q → R
match_out None P Q R none some h = none refl h
match_out (Some a) P Q R none some h = some a refl h

-- the looks of the present round are among all sights
round_each : (P : Sight → Type 0) (sights : List Sight) → Each P sights → Each P (round sights)
round_each P [] h = tt
round_each P (s ∷ earlier) h = by_item s.item (round_each P earlier h.1)
  where
    by_item : (i : Item) → Each P (round earlier) → Each P (round_with i s (round earlier))
    by_item (Looked at after up_to shown) r = (h.0, r)
    by_item (Wrote at) r = tt
    by_item (Lost at read found) r = tt
    by_item (Faulted at before count) r = tt

module _ (base : Base) (coll : Name) (k n : ℕ) where
  abbrev pub Calm : List Sight → Type 0
  Calm sights = Each (IsCalm k n) sights

  abbrev pub Smooth : Sight → Type 0
  Smooth s = IsUnlost base coll k s

  -- ---- one sight

  smooth_as : (s : Sight) (i : Item) → s.item ≡ i → IsUnlostAs base coll k i s → Smooth s
  smooth_as s i e h = subst (λ (j : Item). IsUnlostAs base coll k j s) (sym e) h

  insertion_smooth : (d : Tree) (s : Sight) → IsInsertion base coll k d s → Smooth s
  insertion_smooth d s (inl h) = smooth_as s (Wrote (length s.past)) h.wrote.0 tt
  insertion_smooth d s (inr h) = smooth_as s (Lost (length s.past) 0 (Some h.0)) h.1.item (d, h.0, h.1)

  change_smooth : (look : Sight) (x : Found) (change : Change) (s : Sight) → IsCalm k n s → n ≤ length look.past → IsWon base coll k x change s ⊎ IsLost base coll k look x s → Smooth s
  change_smooth look x change s calm l (inl h) = smooth_as s (Wrote (length s.past)) h.wrote.0 tt
  change_smooth look x change s calm l (inr h) = absurd (lost_none base coll k n look x s calm l h)

  looks_smooth : (f : FilterTree) (r : Rows) (from : Option Tree) (s : Sight) (i : Item) → Looks base coll f r from i → IsUnlostAs base coll k i s
  looks_smooth f r from s (Looked at after up_to shown) h = tt
  looks_smooth f r from s (Wrote at) h = absurd h
  looks_smooth f r from s (Lost at read found) h = absurd h
  looks_smooth f r from s (Faulted at before count) h = absurd h

  look_smooth : (f : FilterTree) (from : Option Tree) (s : Sight) → IsLook base coll f from s → Smooth s
  look_smooth f from s h = looks_smooth f (rows_now base coll s) from s s.item h.1

  alone_smooth : (id : Tree) (xs : List Found) (s : Sight) (i : Item) → LooksAlone id xs i → IsUnlostAs base coll k i s
  alone_smooth id xs s (Looked at after up_to shown) h = tt
  alone_smooth id xs s (Wrote at) h = absurd h
  alone_smooth id xs s (Lost at read found) h = absurd h
  alone_smooth id xs s (Faulted at before count) h = absurd h

  mark_smooth : (s : Sight) (i : Item) → IsMark i → IsUnlostAs base coll k i s
  mark_smooth s (Looked at after up_to shown) h = tt
  mark_smooth s (Wrote at) h = absurd h
  mark_smooth s (Lost at read found) h = absurd h
  mark_smooth s (Faulted at before count) h = absurd h

  made_smooth : (s : Sight) → IsMade base coll k s ⊎ (IsThere base coll k s ⊎ IsOneTooMany base coll k s) → Smooth s
  made_smooth s (inl h) = smooth_as s (Wrote (length s.past)) h.0 tt
  made_smooth s (inr (inl h)) = mark_smooth s s.item h.0
  made_smooth s (inr (inr h)) = mark_smooth s s.item h.0

  dropped_smooth : (s : Sight) → IsDropped base coll k s ⊎ IsAbsent base coll k s → Smooth s
  dropped_smooth s (inl h) = smooth_as s (Wrote (length s.past)) h.0 tt
  dropped_smooth s (inr h) = mark_smooth s s.item h.0

  -- ---- a change of one document

  module _ (f : FilterTree) (sort : SortKeys) (doing : Doing) where
    -- one of the round's looks showed the document, and the attempt was won
    attempt_smooth : (sights : List Sight) (s : Sight) (x : Found) → Calm sights → IsCalm k n s → HasChange base coll k f sort doing x (λ change. IsAttempt base coll k f change (round sights) x s) → Smooth s
    attempt_smooth sights s x all calm (change, is, (look, among, shown, made)) =
        let seen : IsCalm k n look = each_at (IsCalm k n) look (round sights) (round_each (IsCalm k n) sights all) among in
        change_smooth look x change s calm seen.enough made

    unchosen_smooth : (sights : List Sight) (s : Sight) → MatchOption (insertion base coll k f sort doing sights) (IsLook base coll f (next_from None (round sights)) s) (λ d. IsInsertion base coll k d s) → Smooth s
    unchosen_smooth sights s h =
        match_out (insertion base coll k f sort doing sights) (IsLook base coll f (next_from None (round sights)) s) (λ d. IsInsertion base coll k d s) (Smooth s)
        (λ e l. look_smooth f (next_from None (round sights)) s l)
        (λ d e i. insertion_smooth d s i) h

    pub one_smooth : (sights : List Sight) (s : Sight) → Calm sights → IsCalm k n s → NextOne base coll k f sort doing sights s → Smooth s
    one_smooth sights s all calm h =
        match_out (chosen base coll k f sort sights)
        (MatchOption (insertion base coll k f sort doing sights) (IsLook base coll f (next_from None (round sights)) s) (λ d. IsInsertion base coll k d s))
        (λ x. HasChange base coll k f sort doing x (λ change. IsAttempt base coll k f change (round sights) x s)) (Smooth s)
        (λ e l. unchosen_smooth sights s l)
        (λ x e c. attempt_smooth sights s x all calm c) h

    looks_lose : (r : Rows) (from : Option Tree) (i : Item) → Looks base coll f r from i → lost_by i ≡ []
    looks_lose r from (Looked at after up_to shown) h = refl
    looks_lose r from (Wrote at) h = absurd h
    looks_lose r from (Lost at read found) h = absurd h
    looks_lose r from (Faulted at before count) h = absurd h

    attempt_loses : (sights : List Sight) (s : Sight) (x : Found) → Calm sights → IsCalm k n s → HasChange base coll k f sort doing x (λ change. IsAttempt base coll k f change (round sights) x s) → lost_by s.item ≡ []
    attempt_loses sights s x all calm (change, is, (look, among, shown, inl won)) = ap lost_by won.wrote.0
    attempt_loses sights s x all calm (change, is, (look, among, shown, inr lost)) =
        let seen : IsCalm k n look = each_at (IsCalm k n) look (round sights) (round_each (IsCalm k n) sights all) among in
        absurd (lost_none base coll k n look x s calm seen.enough lost)

    no_loss : (sights : List Sight) (s : Sight) → Calm sights → IsCalm k n s → insertion base coll k f sort doing sights ≡ None → NextOne base coll k f sort doing sights s → lost_by s.item ≡ []
    no_loss sights s all calm none h =
        match_out (chosen base coll k f sort sights)
        (MatchOption (insertion base coll k f sort doing sights) (IsLook base coll f (next_from None (round sights)) s) (λ d. IsInsertion base coll k d s))
        (λ x. HasChange base coll k f sort doing x (λ change. IsAttempt base coll k f change (round sights) x s)) (lost_by s.item ≡ [])
        (λ e l. looks_lose (rows_now base coll s) (next_from None (round sights)) s.item (looked l).1)
        (λ x e c. attempt_loses sights s x all calm c) h
      where
        looked : MatchOption (insertion base coll k f sort doing sights) (IsLook base coll f (next_from None (round sights)) s) (λ d. IsInsertion base coll k d s) → IsLook base coll f (next_from None (round sights)) s
        looked l = subst (λ (o : Option Tree). MatchOption o (IsLook base coll f (next_from None (round sights)) s) (λ d. IsInsertion base coll k d s)) none l

    -- unless the newest sight is of an insertion, no attempt was lost
    pub no_losses : (form : Form) (sights : List Sight) → Calm sights → IsPartOf base coll k (changes_one f sort doing form) sights → put_last base coll k f sort doing sights ≡ None → losses sights ≡ []
    no_losses form [] all part e = refl
    no_losses form (s ∷ earlier) all part e =
        let before = no_losses form earlier all.1 part.0 part.1.2 in
        let here = no_loss earlier s all.1 all.0 e part.2 in
        λ i. here i ++ before i

  -- ---- many are changed

  -- no attempt was lost, and the looks that showed what is to be taken are the session's
  pub record IsFresh (st : Standing) : Type 0 where
    pub again : st.again ≡ false
    pub queue : Each (λ q. n ≤ length q.look.past) st.queue

  -- so this turn gives up nothing
  abbrev pub IsCalmTurn : Turn → Type 0
  IsCalmTurn (looks_on from) = Unit {0}
  IsCalmTurn (looks_again id) = Unit {0}
  IsCalmTurn (attempts q change) = n ≤ length q.look.past
  IsCalmTurn (puts d) = Unit {0}
  IsCalmTurn (is_done more) = Unit {0}
  IsCalmTurn (is_put d) = Unit {0}
  IsCalmTurn (is_taken d tx) = Unit {0}
  IsCalmTurn (is_refused fault) = Unit {0}
  IsCalmTurn gives_up = ⊥

  put_calm : (p : Put) (o : Option (Result Tree UpdateFault)) → IsCalmTurn (turn_put p o)
  put_calm not_put None = tt
  put_calm not_put (Some (Ok new)) = tt
  put_calm not_put (Some (Err fault)) = tt
  put_calm was_put None = tt
  put_calm was_put (Some (Ok new)) = tt
  put_calm was_put (Some (Err fault)) = tt
  put_calm (was_taken None) None = tt
  put_calm (was_taken None) (Some o) = tt
  put_calm (was_taken (Some tx)) None = tt
  put_calm (was_taken (Some tx)) (Some (Ok new)) = tt
  put_calm (was_taken (Some tx)) (Some (Err fault)) = tt

  module _ (f : FilterTree) (doing : Doing) (up : Option (Result Tree UpdateFault)) where
    pub turn_calm : (st : Standing) → IsFresh st → IsCalmTurn (turn up doing st)
    turn_calm st fresh = subst (λ (b : Bool). IsCalmTurn (turn_of up b doing st)) (sym fresh.again) (by_queue st.queue fresh.queue)
      where
        by_matched : (b : Bool) → IsCalmTurn (if b then is_done false else turn_put st.put up)
        by_matched true = tt
        by_matched false = put_calm st.put up

        by_end : (b : Bool) → IsCalmTurn (if b then turn_whole up st else looks_on st.from)
        by_end true = by_matched (nat_lt 0 st.matched)
        by_end false = tt

        by_change : (q : Shown) → n ≤ length q.look.past → (r : Result (Option Change) UpdateFault) → IsCalmTurn (take_with q r)
        by_change q l (Ok (Some change)) = l
        by_change q l (Ok None) = tt
        by_change q l (Err fault) = tt

        by_count : (q : Shown) → n ≤ length q.look.past → (b : Bool) → IsCalmTurn (if b then take_with q (change_of doing q.x.doc) else is_done true)
        by_count q l true = by_change q l (change_of doing q.x.doc)
        by_count q l false = tt

        by_queue : (qs : List Shown) → Each (λ q. n ≤ length q.look.past) qs → IsCalmTurn (turn_on up doing qs st)
        by_queue [] h = by_end st.is_whole
        by_queue (q ∷ rest) h = by_count q h.0 (nat_lt st.matched 20)

    -- what follows on such a turn is smooth
    pub follows_smooth : (t : Turn) (s : Sight) → IsCalmTurn t → IsCalm k n s → Follows base coll k f t s → Smooth s
    follows_smooth (looks_on from) s t calm h = look_smooth f from s h.0
    follows_smooth (looks_again id) s t calm h = alone_smooth id _ s s.item h.1
    follows_smooth (attempts q change) s t calm h = change_smooth q.look q.x change s calm t h
    follows_smooth (puts d) s t calm h = insertion_smooth d s h
    follows_smooth (is_done more) s t calm h = absurd h
    follows_smooth (is_put d) s t calm h = absurd h
    follows_smooth (is_taken d tx) s t calm h = absurd h
    follows_smooth (is_refused fault) s t calm h = absurd h
    follows_smooth gives_up s t calm h = absurd h

    -- what waits isn't lost
    waiting_won : (q : Shown) (rest : List Shown) (st : Standing) (s : Sight) (at read : ℕ) (found : Option ℕ) → n ≤ length q.look.past → IsCalm k n s → s.item ≡ Lost at read found → Follows base coll k f (turn_on up doing (q ∷ rest) st) s → ⊥
    waiting_won q rest st s at read found l calm lost h = by_count (nat_lt st.matched 20) h
      where
        by_attempt : (change : Change) → IsWon base coll k q.x change s ⊎ IsLost base coll k q.look q.x s → ⊥
        by_attempt change (inl won) = let both : Wrote (length s.past) ≡ Lost at read found = sym won.wrote.0 ∙ lost in cc
        by_attempt change (inr it) = lost_none base coll k n q.look q.x s calm l it

        by_change : (r : Result (Option Change) UpdateFault) → Follows base coll k f (take_with q r) s → ⊥
        by_change (Ok (Some change)) h = by_attempt change h
        by_change (Ok None) h = h
        by_change (Err fault) h = h

        by_count : (b : Bool) → Follows base coll k f (if b then take_with q (change_of doing q.x.doc) else is_done true) s → ⊥
        by_count true h = by_change (change_of doing q.x.doc) h
        by_count false h = h

    settled_fresh : (qs : List Shown) (st : Standing) → st.again ≡ false → Each (λ q. n ≤ length q.look.past) qs → IsFresh (settled doing qs st)
    settled_fresh [] st a h = record { again = a; queue = tt }
    settled_fresh (q ∷ rest) st a h = by_test (nat_lt st.matched 20 && is_unchanged (change_of doing q.x.doc)) (settled_fresh rest (count q.x 0 rest st) a h.1)
      where
        by_test : (b : Bool) → IsFresh (settled doing rest (count q.x 0 rest st)) → IsFresh (if b then settled doing rest (count q.x 0 rest st) else record st { queue = q ∷ rest })
        by_test true r = r
        by_test false r = record { again = a; queue = h }

    shown_each : (look : Sight) (xs : List Found) → n ≤ length look.past → Each (λ q. n ≤ length q.look.past) (shown_with look xs)
    shown_each look [] l = tt
    shown_each look (x ∷ xs) l = (l, shown_each look xs l)

    win_fresh : (qs : List Shown) (st : Standing) → IsFresh st → Each (λ q. n ≤ length q.look.past) qs → IsFresh (settle doing (win qs st))
    win_fresh [] st fresh h = settled_fresh st.queue (win [] st) fresh.again fresh.queue
    win_fresh (q ∷ rest) st fresh h = settled_fresh rest (win (q ∷ rest) st) refl h.1

    pub fresh_after : (s : Sight) (st : Standing) → IsFresh st → IsCalm k n s → Follows base coll k f (turn up doing st) s → IsFresh (with_item base coll f doing s.item s st)
    fresh_after s st fresh calm h = by_item s.item refl
      where
        lost_fresh : (at read : ℕ) (found : Option ℕ) → s.item ≡ Lost at read found → (qs : List Shown) → st.queue ≡ qs → IsFresh (lose (record { read = read; found = found }) qs st)
        lost_fresh at read found is [] e = record { again = fresh.again; queue = fresh.queue }
        lost_fresh at read found is (q ∷ rest) e =
            let now : Follows base coll k f (turn_of up false doing st) s = subst (λ (b : Bool). Follows base coll k f (turn_of up b doing st) s) fresh.again h in
            let front : Each (λ q. n ≤ length q.look.past) (q ∷ rest) = subst (Each (λ q. n ≤ length q.look.past)) e fresh.queue in
            absurd (waiting_won q rest st s at read found front.0 calm is (subst (λ (l : List Shown). Follows base coll k f (turn_on up doing l st) s) e now))

        by_item : (i : Item) → s.item ≡ i → IsFresh (with_item base coll f doing i s st)
        by_item (Looked at after up_to shown) is =
            let new : Standing = list_on base coll f s st in
            subst (λ (b : Bool). IsFresh (settle doing (with_look base coll f b s st))) (sym fresh.again)
            (settled_fresh new.queue new fresh.again (each_append (λ q. n ≤ length q.look.past) st.queue (shown_with s (shown_by base coll f s)) fresh.queue (shown_each s (shown_by base coll f s) calm.enough)))
        by_item (Wrote at) is = win_fresh st.queue st fresh fresh.queue
        by_item (Lost at read found) is = lost_fresh at read found is st.queue refl
        by_item (Faulted at before count) is = fresh

  module _ (f : FilterTree) (doing : Doing) (page : Option PageState) where
    pub fresh : (sights : List Sight) → Calm sights → IsPartOf base coll k (changes_many f doing page) sights → IsFresh (many_standing base coll k f doing page sights)
    fresh [] all part = record { again = refl; queue = tt }
    fresh (s ∷ earlier) all part = fresh_after f doing (upsert_for f doing page) s (many_standing base coll k f doing page earlier) (fresh earlier all.1 part.0) all.0 part.2

    pub many_calm : (sights : List Sight) → Calm sights → IsPartOf base coll k (changes_many f doing page) sights → IsCalmTurn (many_turn base coll k f doing page sights)
    many_calm sights all part = turn_calm f doing (upsert_for f doing page) (many_standing base coll k f doing page sights) (fresh sights all part)

  -- ---- all jobs

  next_smooth : (job : Job) (sights : List Sight) (s : Sight) → Calm sights → IsCalm k n s → IsPartOf base coll k job sights → Next base coll k job sights s → Smooth s
  next_smooth (inserts ds ordered) sights s all calm part h =
      match_out (next_document ds ordered sights) ⊥ (λ d. IsInsertion base coll k d s) (Smooth s) (λ e l. absurd l) (λ d e i. insertion_smooth d s i) h
  next_smooth (finds_one f sort shows) sights s all calm part h = look_smooth f _ s h
  next_smooth (finds f sort shows p) sights s all calm part h = look_smooth f _ s h
  next_smooth (counts f) sights s all calm part h = look_smooth f _ s h
  next_smooth (changes_one f sort doing form) sights s all calm part h = one_smooth f sort doing sights s all calm h
  next_smooth (changes_many f doing page) sights s all calm part h = follows_smooth f doing (upsert_for f doing page) (many_turn base coll k f doing page sights) s (many_calm f doing page sights all part) calm h
  next_smooth creates sights s all calm part h = made_smooth s h
  next_smooth drops sights s all calm part h = dropped_smooth s h
  next_smooth names sights s all calm part h = mark_smooth s s.item h

  pub part_smooth : (job : Job) (sights : List Sight) → Calm sights → IsPartOf base coll k job sights → Each Smooth sights
  part_smooth job [] all part = tt
  part_smooth job (s ∷ earlier) all part = (next_smooth job earlier s all.1 all.0 part.0 part.2, part_smooth job earlier all.1 part.0)

  stop_smooth : (marks : Option Tree → Option Tree → Type 0) (to_write : Type 0) (s : Sight) (error : ErrorItem) (i : Item) → Stops base coll k marks to_write i s error → IsUnlostAs base coll k i s
  stop_smooth marks to_write s error (Looked at after up_to shown) h = tt
  stop_smooth marks to_write s error (Wrote at) h = tt
  stop_smooth marks to_write s error (Lost at read found) h = absurd h
  stop_smooth marks to_write s error (Faulted at before count) h = tt

  pub stopped_smooth : (job : Job) (sights : List Sight) (error : ErrorItem) → Calm sights → IsStopped base coll k job sights error → Each Smooth sights
  stopped_smooth job [] error all h = absurd h
  stopped_smooth job (s ∷ earlier) error all h = (stop_smooth (Marks base coll k job earlier) (IsToWrite base coll k job earlier) s error s.item h.2, part_smooth job earlier all.1 h.0)
