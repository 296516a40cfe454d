-- What the reply of a command that takes many documents tells of those that its pages showed.
use Rattle.std.proofs.Common.{◌≡◌, ◌⊎◌, ℕ, ◌+◌, ◌-◌, ◌^◌, ◌<◌, ◌≤◌, List, [], ◌∷◌, length, min, Bool, true, false, cond, Option, Some, None, Result, Ok, Err, refl, sym, ap, ◌∙◌, subst, arith, ⊎_elim, inl, inr}
use Rattle.std.specs.Prelude.{◌&&◌, nat_lt, MatchOption, IfSome, if◌then◌else◌}
use Rattle.std.specs.Option.{option_map}
use Rattle.std.specs.List.{AllByRecursion as Each}
use Rattle.std.proofs.lemmas.Bool.{ltb-true, ltb-false}
use Rattle.json_tree.specs.Tree.{Tree}
use Rattle.shred_cols.specs.Row.{id_of}
use Rattle.shred_cols.specs.Rows.{Rows, is_after, ascends}
use Rattle.col_keeper.specs.Tables.{Name}
use Rattle.filter_tree.specs.Filters.{FilterTree}
use Rattle.view_sort.specs.Page.{state_text}
use Rattle.view_sort.specs.declared.page.PageState.{PageState}
use Rattle.update_ops.specs.declared.fault.UpdateFault.{UpdateFault}
use Rattle.reply_env.specs.Messages as errors
use Rattle.reply_env.specs.Reply.{IsRefusalAfter, IsRefusal}
use Rattle.reply_env.specs.declared.reply.ErrorItem.{ErrorItem}
use Rattle.reply_env.specs.declared.reply.SoFar.{SoFar}
use Rattle.reply_env.specs.declared.reply.Reply.{Reply}
use Rattle.reply_env.specs.declared.reply.Reply.TheVariants.{UpdatedMany, Refused, NoMemory}
use Rattle.store_core.specs.State.{State}
use Rattle.store_core.specs.declared.entry.Change.{Change}
use Rattle.store_core.specs.declared.entry.Entry.{Entry}
use Rattle.cmd_tasks.specs.Trace.{Sight, Found, rows_now, found_in, seen_by, shown_by}
use Rattle.cmd_tasks.specs.Pages.{last_of}
use Rattle.cmd_tasks.specs.Part.{given_of}
use Rattle.cmd_tasks.specs.Doing.{Doing, makes, deletes, change_of}
use Rattle.cmd_tasks.specs.Jobs.{Job, changes_many}
use Rattle.cmd_tasks.specs.Taking.{Shown, Standing, Put, not_put, count, is_unchanged, settled, settle, win, shown_alone, list_on, replace, standing, Turn, looks_on, looks_again, attempts, inserts, is_done, is_put, is_taken, gives_up, take_with, turn_put, turn_again, turn_whole, turn_on, turn_of, turn}
use Rattle.cmd_tasks.specs.Turns.{IsOn, IsWrite, MarksTurn, counts_of, so_far_of, state_behind, upsert_for, done_reply, Ends}
use Rattle.cmd_tasks.specs.Served.{accepted, one_if_wrote, Stops, IsStopped, TellsStop, Serves, sights}
use Rattle.cmd_tasks.specs.Tally.{Taken, is_changed, is_counted, changed, unchanged, passed, counted_of, changed_of, listed, IsPut, puts, TellsAll, told_before, matched, modified, AreMore, next_state, IsDue, IsUndue, Tells, AreTaken}
use Rattle.cmd_tasks.specs.declared.trace.Item.{Item}
use Rattle.cmd_tasks.specs.declared.trace.Item.TheVariants.{Looked, Wrote, Lost, Faulted}
use Rattle.cmd_tasks.proofs.Ascent.{InOrder, sights_rows}
use Rattle.cmd_tasks.proofs.Covering.{each_of_map}
use Rattle.cmd_tasks.proofs.Turnings.{was_put_turn, was_taken_turn}
use Rattle.cmd_tasks.proofs.Stepping.{alone_shows_none, put_writes, IsPaged, IsRelooked, IsWritten, IsBeaten, IsPutting, steps}
use Rattle.cmd_tasks.proofs.Accepted.{AreSteps, steps_accept, part_steps}
use Rattle.cmd_tasks.proofs.Tallying.{IsTallied, tallied_more, Waits, tallied}
use Rattle.cmd_tasks.proofs.Reaching.{IsReached, still, reached}
use Rattle.cmd_tasks.proofs.Upserted.{WasPut, WasTaken, PutSo, unput_on, put_so}

some_last : {A : Type 0} (xs : List A) → 1 ≤ length xs → (x : A) × (last_of xs ≡ Some x)
some_last [] h = absurd (omega (arith, h))
some_last (x ∷ []) h = (x, refl)
some_last (x ∷ y ∷ xs) h = some_last (y ∷ xs) (omega arith)

differ : {A : Type 0} → true ≡ false → A
differ e = cc

none_first : {A : Type 0} (q : Shown) (rest : List Shown) → [] ≡ q ∷ rest → A
none_first q rest e = cc

-- what is changed is counted
fewer_changed : (ts : List Taken) → length (changed_of ts) ≤ length (counted_of ts)
fewer_changed [] = omega arith
fewer_changed (t ∷ ts) =
    let r = fewer_changed ts in
    elim t.fate as (λ x. length (cond (is_changed x) (t ∷ changed_of ts) (changed_of ts)) ≤ length (cond (is_counted x) (t ∷ counted_of ts) (counted_of ts))) [
      | changed ↦ omega (arith, r)
      | unchanged ↦ omega (arith, r)
      | passed ↦ omega (arith, r)
    ]

module _ (base : State) (coll : Name) (k : ℕ) (f : FilterTree) (doing : Doing) where
  -- ---- where the first of the queue's is to be attempted, a write is needed

  abbrev NeedsWrite : Standing → Type 0
  NeedsWrite st = st.again ≡ false → (q : Shown) (rest : List Shown) → st.queue ≡ q ∷ rest → nat_lt st.matched 20 ≡ true → is_unchanged (change_of doing q.x.doc) ≡ false

  settled_needs : (queue : List Shown) (st : Standing) → NeedsWrite (settled doing queue st)
  settled_needs [] st = λ again q rest e few. cc
  settled_needs (p ∷ queue) st =
      elim (nat_lt st.matched 20 && is_unchanged (change_of doing p.x.doc)) as (λ b. nat_lt st.matched 20 && is_unchanged (change_of doing p.x.doc) ≡ b
      → NeedsWrite (if b then settled doing queue (count p.x 0 queue st) else record st { queue = p ∷ queue })) [
        | true ↦ λ e. settled_needs queue (count p.x 0 queue st)
        | false ↦ λ e again q rest is few. ap (λ z. is_unchanged (change_of doing z)) (sym (same_first is)) ∙ (ap (λ b. b && is_unchanged (change_of doing p.x.doc)) (sym few) ∙ e)
      ] refl
    where
      same_first : {q : Shown} {rest : List Shown} → p ∷ queue ≡ q ∷ rest → p.x.doc ≡ q.x.doc
      same_first {q} is = ap (λ zs. elim zs as (λ _. Tree) [ [] ↦ p.x.doc | z ∷ zs ↦ z.x.doc ]) is

  by_settle : (st next : Standing) → st ≡ settle doing next → NeedsWrite st
  by_settle st next is = subst NeedsWrite (sym is) (settled_needs next.queue next)

  needs_write : (up : Option (Result Tree UpdateFault)) (from : Option Tree) (sights : List Sight) → AreSteps base coll k f doing up from sights → NeedsWrite (standing base coll f doing from sights)
  needs_write up from [] h = λ again q rest e few. cc
  needs_write up from (s ∷ earlier) h =
      let st = standing base coll f doing from earlier in
      let new = standing base coll f doing from (s ∷ earlier) in
      ⊎_elim
      (λ (p : IsPaged base coll k f doing s st new). by_settle new (list_on base coll f s st) p.new_is)
      (λ more. ⊎_elim
      (λ (p : IsRelooked base coll k f doing s st new). by_settle new (replace base coll f s (shown_alone base coll f p.first.x.id s) p.rest st) p.new_is)
      (λ more. ⊎_elim
      (λ (p : IsWritten base coll k f doing s st new). by_settle new (win (p.first ∷ p.rest) st) p.new_is)
      (λ more. ⊎_elim
      (λ (p : IsBeaten base coll k f doing s st new). λ again q rest e few. differ (sym (ap (λ z. z.again) p.new_is) ∙ again))
      (λ (p : IsPutting base coll k f doing up s st new). λ again q rest e few. none_first q rest (sym (ap (λ z. z.queue) p.new_is) ∙ e))
      more)
      more)
      more)
      (steps base coll k f doing up s st h.1)

  module _ (page : Option PageState) where
    abbrev from : Option Tree
    from = option_map (λ p. p.last) page

    abbrev up : Option (Result Tree UpdateFault)
    up = upsert_for f doing page

    -- nothing is inserted by a deletion
    deletes_puts : (p : Option PageState) (d : Tree) → upsert_for f deletes p ≡ Some (Ok d) → ⊥
    deletes_puts None d e = cc
    deletes_puts (Some p) d e = cc

    -- ---- what the reply tells

    module _ (sights : List Sight) (st : Standing) (t : IsTallied base coll k f doing sights st) where
      abbrev TellsSo : Option Tree → Doing → Reply → Type 0
      TellsSo put d reply = Tells page t.taken t.waiting up put d reply × (TellsAll reply → st.is_whole ≡ true)

      told_so_far : (d : Doing) → so_far_of d st ≡ (if nat_lt 0 (modified page t.taken t.waiting) then Some (told_before d (matched page t.taken t.waiting) (modified page t.taken t.waiting)) else None)
      told_so_far (makes making id) = λ j. if nat_lt 0 (t.modified j) then Some (told_before (makes making id) (t.matched j) (t.modified j)) else None
      told_so_far deletes = λ j. if nat_lt 0 (t.modified j) then Some (told_before deletes (t.matched j) (t.modified j)) else None

      refused : (d : Doing) (error : ErrorItem) (reply : Reply) → IsRefusalAfter (so_far_of d st) error reply → TellsSo None d reply
      refused (makes making id) error (Refused errors before) h = ((h.1 ∙ told_so_far (makes making id), refl), λ none. absurd none)
      refused (makes making id) error reply h = absurd h
      refused deletes error (Refused errors before) h = ((h.1 ∙ told_so_far deletes, refl), λ none. absurd none)
      refused deletes error reply h = absurd h

      cut : (put : Option Tree) (d : Doing) (n : ℕ) → n ≡ st.modified + puts put → TellsSo put d (NoMemory n)
      cut put (makes making id) n e = (e ∙ ap (λ m. m + puts put) t.modified, λ none. absurd none)
      cut put deletes n e = (e ∙ ap (λ m. m + puts put) t.modified, λ none. absurd none)

      -- all is taken
      none_left : st.queue ≡ [] → t.waiting ≡ []
      none_left e = subst (λ qs. Waits base coll k f doing sights st.again qs t.waiting) e t.waits

      all_done : (d : Doing) → st.queue ≡ [] → st.is_whole ≡ true → (up ≡ None) ⊎ (0 < st.matched) → TellsSo None d (done_reply d page st false)
      all_done (makes making id) e whole undue = ((t.matched, t.modified, refl, ⊎_elim (λ none. inl none) (λ some. inr (subst (λ n. 0 < n) t.matched some)) undue, none_left e), λ h. whole)
      all_done deletes e whole undue = ((t.modified, none_left e), λ h. whole)

      -- 20 are counted, and some are left
      some_left : (q : Shown) (rest : List Shown) → st.queue ≡ q ∷ rest → nat_lt st.matched 20 ≡ false → AreMore page t.taken t.waiting
      some_left q rest e full =
          let h = subst (λ qs. Waits base coll k f doing sights st.again qs t.waiting) e t.waits in
          let many = ltb-false st.matched 20 full in
          let few = t.few in
          let m = t.matched in
          let w = ap length h.1 in
          (omega (arith, many, few, m), omega (arith, w))

      more_left : (d : Doing) → AreMore page t.taken t.waiting → TellsSo None d (done_reply d page st true)
      more_left (makes making id) more =
          let last = some_last (counted_of t.taken) (let n = more.0 in omega (arith, n)) in
          let text : List ℕ = state_text (min (given_of page + length (counted_of t.taken)) (2 ^ 63 - 1)) last.0.shown.x.id in
          let next : next_state page t.taken t.waiting ≡ Some text = ap (option_map (λ (z : Taken). state_text (min (given_of page + length (counted_of t.taken)) (2 ^ 63 - 1)) z.shown.x.id)) last.1 in
          let told : state_behind page st true ≡ Some text =
          (λ j. option_map (state_text (min (given_of page + t.matched j) (2 ^ 63 - 1))) (t.last j))
          ∙ ap (λ o. option_map (state_text (min (given_of page + length (counted_of t.taken)) (2 ^ 63 - 1))) (option_map (λ (z : Taken). z.shown.x.id) o)) last.1 in (
            (
              t.matched,
              t.modified,
              refl,
              inr (let n = more.0 in omega (arith, n)),
              subst (λ o. MatchOption o (t.waiting ≡ []) (λ x. AreMore page t.taken t.waiting × (next_state page t.taken t.waiting ≡ Some x))) (sym told) (more, next),
            ),
            λ none. some_none text (sym told ∙ none),
          )
        where
          some_none : {A B : Type 0} (a : A) → Some a ≡ None → B
          some_none a e = cc
      more_left deletes more = ((t.modified, more), λ h. differ h)

      -- none is counted, and so none is changed
      none_changed : st.matched ≡ 0 → st.modified ≡ 0
      none_changed none = let a = t.matched in let b = t.modified in let c = fewer_changed t.taken in omega (arith, a, b, c, none)

      -- a document was inserted
      put_told : (d : Tree) (z : Doing) → upsert_for f z page ≡ Some (Ok d) → st.queue ≡ [] → st.is_whole ≡ true → st.matched ≡ 0 → TellsSo (Some d) z (UpdatedMany 0 0 (Some (id_of d)) None)
      put_told d (makes making id) due e whole none = ((sym none ∙ t.matched, sym (none_changed none) ∙ t.modified, refl, tt, none_left e), λ h. whole)
      put_told d deletes due e whole none = absurd (deletes_puts page d due)

      -- its id was there
      taken_told : (error : ErrorItem) (reply : Reply) → st.matched ≡ 0 → IsRefusal error reply → TellsSo None doing reply
      taken_told error reply none h = refused doing error reply (subst (λ (o : Option SoFar). IsRefusalAfter o error reply) (sym (ap (λ n. if nat_lt 0 n then Some (counts_of doing st) else None) (none_changed none))) h)

      abbrev IsTold : Reply → Type 0
      IsTold r = TellsSo None doing r

      -- the reply that belongs to where the command ends, where nothing was inserted
      ends : NeedsWrite st → st.put ≡ not_put → (reply : Reply) → Ends doing page st (turn up doing st) reply → TellsSo None doing reply
      ends needs unput reply h = by_again st.again refl h
        where
          by_losses : (b : Bool) (q : Shown) → Ends doing page st (if b then looks_again q.x.id else gives_up) reply → IsTold reply
          by_losses true q h = absurd h
          by_losses false q h = refused doing _ reply h

          by_queue_again : (qs : List Shown) → Ends doing page st (turn_again qs st) reply → IsTold reply
          by_queue_again [] h = refused doing _ reply h
          by_queue_again (q ∷ rest) h = by_losses (nat_lt (length st.losses) 4) q h

          by_put : st.queue ≡ [] → st.is_whole ≡ true → (o : Option (Result Tree UpdateFault)) → up ≡ o → Ends doing page st (turn_put not_put o) reply → IsTold reply
          by_put e whole None due h = subst IsTold (sym h) (all_done doing e whole (inl due))
          by_put e whole (Some (Ok d)) due h = absurd h
          by_put e whole (Some (Err fault)) due h = refused doing _ reply h

          by_matched : st.queue ≡ [] → st.is_whole ≡ true → (b : Bool) → nat_lt 0 st.matched ≡ b → Ends doing page st (if b then is_done false else turn_put st.put up) reply → IsTold reply
          by_matched e whole true some h = subst IsTold (sym h) (all_done doing e whole (inr (ltb-true 0 st.matched some)))
          by_matched e whole false none h = by_put e whole up refl (subst (λ (p : Put). Ends doing page st (turn_put p up) reply) unput h)

          by_end : st.queue ≡ [] → (b : Bool) → st.is_whole ≡ b → Ends doing page st (if b then turn_whole up st else looks_on st.from) reply → IsTold reply
          by_end e true whole h = by_matched e whole (nat_lt 0 st.matched) refl h
          by_end e false whole h = absurd h

          by_change : st.again ≡ false → (q : Shown) (rest : List Shown) → st.queue ≡ q ∷ rest → nat_lt st.matched 20 ≡ true → (r : Result (Option Change) UpdateFault) → change_of doing q.x.doc ≡ r
              → Ends doing page st (take_with q r) reply → IsTold reply
          by_change first_time q rest e few (Ok (Some change)) made h = absurd h
          by_change first_time q rest e few (Ok None) made h = differ (sym (ap is_unchanged made) ∙ needs first_time q rest e few)
          by_change first_time q rest e few (Err fault) made h = refused doing _ reply h

          by_count : st.again ≡ false → (q : Shown) (rest : List Shown) → st.queue ≡ q ∷ rest → (b : Bool) → nat_lt st.matched 20 ≡ b
              → Ends doing page st (if b then take_with q (change_of doing q.x.doc) else is_done true) reply → IsTold reply
          by_count first_time q rest e true few h = by_change first_time q rest e few (change_of doing q.x.doc) refl h
          by_count first_time q rest e false full h = subst IsTold (sym h) (more_left doing (some_left q rest e full))

          by_queue : st.again ≡ false → (qs : List Shown) → st.queue ≡ qs → Ends doing page st (turn_on up doing qs st) reply → IsTold reply
          by_queue first_time [] e h = by_end e st.is_whole refl h
          by_queue first_time (q ∷ rest) e h = by_count first_time q rest e (nat_lt st.matched 20) refl h

          by_again : (b : Bool) → st.again ≡ b → Ends doing page st (turn_of up b doing st) reply → IsTold reply
          by_again true again h = by_queue_again st.queue h
          by_again false first_time h = by_queue first_time st.queue refl h

      -- what is known of an insertion
      record IsKnown (put : Option Tree) : Type 0 where
        inserted : IfSome put (λ d. IsPut base coll k sights d × IsDue page t.taken t.waiting up d)
        unended : st.is_whole ≡ false → put ≡ None
        wrote : accepted sights ≡ st.modified + puts put

      none_known : accepted sights ≡ st.modified + put_writes st.put → put_writes st.put ≡ 0 → IsKnown None
      none_known wrote none = record { inserted = tt; unended = λ h. refl; wrote = omega (arith, wrote, none) }

      put_known : accepted sights ≡ st.modified + put_writes st.put → (w : WasPut base coll k f doing up sights st) → IsKnown (Some w.d)
      put_known wrote w = record {
        inserted = (w.is, (w.due, sym t.matched ∙ w.at_end.none, none_left w.at_end.queue));
        unended = λ h. differ (sym w.at_end.whole ∙ h);
        wrote = let one = ap put_writes w.put in omega (arith, wrote, one);
      }

      -- what became of what the pages showed
      taken_so : IsReached base coll k f doing from sights st → (put : Option Tree) → IsKnown put → (reply : Reply) → TellsSo put doing reply → AreTaken base coll k f doing page sights reply
      taken_so r put known reply told = record {
        taken = t.taken;
        left = t.waiting;
        put = put;
        all = t.all;
        rise = r.rise;
        each = t.each;
        inserted = known.inserted;
        writes = known.wrote ∙ ap (λ m. m + puts put) t.modified;
        tells = told.0;
        whole = λ id after. ⊎_elim
            (λ came. inl came)
            (λ (far : (st.is_whole ≡ false) × (is_after st.from id ≡ true)). inr (
              (λ all. differ (sym (told.1 all) ∙ far.0)),
              known.unended far.0,
              each_of_map (λ (x : Found). is_after (Some x.id) id ≡ true) (λ (z : Shown). z.x) (listed base coll f sights) (r.behind far.0 id far.1).1,
            ))
            (r.reach id after);
      }

    -- ---- a sight at which the request stops

    marks_alone : (s : Sight) (tn : Turn) (after to : Option Tree) → MarksTurn tn after to → IsWrite tn → found_in (rows_now base coll s) f after to ≡ []
    marks_alone s (attempts q change) after to m w = (λ j. found_in (rows_now base coll s) f (m.0 j) (m.1 j)) ∙ alone_shows_none f q.x.id (rows_now base coll s)
    marks_alone s (inserts d) after to m w = (λ j. found_in (rows_now base coll s) f (m.0 j) (m.1 j)) ∙ alone_shows_none f (id_of d) (rows_now base coll s)
    marks_alone s tn after to m w = absurd w

    stopped_shows : (s : Sight) (tn : Turn) (error : ErrorItem) (i : Item) → Stops base coll k (MarksTurn tn) (IsWrite tn) i s error → (◌≡◌ {A = List Found} (seen_by base coll f (rows_now base coll s) i) []) × (one_if_wrote i ≡ 0)
    stopped_shows s tn error (Looked at after to page) h = (
      ⊎_elim
          (λ spent. marks_alone s tn after to h.0 spent.0)
          (λ gone. ap (λ o. found_in (elim o as (λ _. Rows) [ None ↦ [] | Some r ↦ r ]) f after to) gone.1)
          h.2,
      refl,
    )
    stopped_shows s tn error (Wrote at) h = absurd h
    stopped_shows s tn error (Lost at read old) h = absurd h
    stopped_shows s tn error (Faulted at before count) h = (refl, refl)

    -- ---- all of it

    module _ (sights : List Sight) (sorted : Each (λ s. ascends (rows_now base coll s) ≡ true) sights) (h : AreSteps base coll k f doing up from sights) where
      abbrev st : Standing
      st = standing base coll f doing from sights

      t : IsTallied base coll k f doing sights st
      t = tallied base coll k f doing up from sights h

      r : IsReached base coll k f doing from sights st
      r = reached base coll k f doing from up sights sorted h

      wrote : accepted sights ≡ st.modified + put_writes st.put
      wrote = steps_accept base coll k f doing up from sights h

      so : PutSo base coll k f doing up sights st
      so = put_so base coll k f doing up from sights h

      -- the request is answered
      taken_answered : (reply : Reply) → Ends doing page st (turn up doing st) reply → AreTaken base coll k f doing page sights reply
      taken_answered reply e = ⊎_elim
          (λ (unput : st.put ≡ not_put). taken_so sights st t r None (none_known sights st t wrote (ap put_writes unput)) reply (ends sights st t (needs_write up from sights h) unput reply e))
          (λ over. ⊎_elim
          (λ (w : WasPut base coll k f doing up sights st).
          let is : reply ≡ UpdatedMany 0 0 (Some (id_of w.d)) None = subst (λ (x : Turn). Ends doing page st x reply) (was_put_turn up doing st w.d w.at_end w.put w.due) e in
          taken_so sights st t r (Some w.d) (put_known sights st t wrote w) reply (subst (TellsSo sights st t (Some w.d) doing) (sym is) (put_told sights st t w.d doing w.due w.at_end.queue w.at_end.whole w.at_end.none)))
          (λ (w : WasTaken base coll k f doing up st).
          let is : IsRefusal (errors.already_exists (id_of w.d) w.tx) reply = subst (λ (x : Turn). Ends doing page st x reply) (was_taken_turn up doing st w.d w.tx w.at_end w.put w.due) e in
          taken_so sights st t r None (none_known sights st t wrote (ap put_writes w.put)) reply (taken_told sights st t (errors.already_exists (id_of w.d) w.tx) reply w.at_end.none is))
          over)
          so

      -- it is cut off
      taken_cut : (reply : Reply) → reply ≡ NoMemory (accepted sights) → AreTaken base coll k f doing page sights reply
      taken_cut reply e = ⊎_elim
          (λ (unput : st.put ≡ not_put). cut_off None (none_known sights st t wrote (ap put_writes unput)))
          (λ over. ⊎_elim
          (λ (w : WasPut base coll k f doing up sights st). cut_off (Some w.d) (put_known sights st t wrote w))
          (λ (w : WasTaken base coll k f doing up st). cut_off None (none_known sights st t wrote (ap put_writes w.put)))
          over)
          so
        where
          cut_off : (put : Option Tree) → IsKnown sights st t put → AreTaken base coll k f doing page sights reply
          cut_off put known = taken_so sights st t r put known reply (subst (TellsSo sights st t put doing) (sym e) (cut sights st t put doing (accepted sights) known.wrote))

      -- it stops at one more sight
      module _ (on : IsOn (turn up doing st)) (last : Sight) (error : ErrorItem) (stops : Stops base coll k (MarksTurn (turn up doing st)) (IsWrite (turn up doing st)) last.item last error) where
        facts : (◌≡◌ {A = List Found} (shown_by base coll f last) []) × (one_if_wrote last.item ≡ 0)
        facts = stopped_shows last (turn up doing st) error last.item stops

        abbrev there : List Sight
        there = last ∷ sights

        t' : IsTallied base coll k f doing there st
        t' = tallied_more base coll k f doing last sights st facts.0 t

        r' : IsReached base coll k f doing from there st
        r' = still base coll k f doing from last sights st st facts.0 refl refl r

        known' : IsKnown there st t' None
        known' = none_known there st t' (let n = facts.1 in let w = wrote in omega (arith, n, w)) (ap put_writes (unput_on base coll k f doing up sights st so on))

        taken_stopped : (reply : Reply) → IsRefusalAfter (so_far_of doing st) error reply → AreTaken base coll k f doing page there reply
        taken_stopped reply e = taken_so there st t' r' None known' reply (refused there st t' doing error reply e)

        taken_stopped_cut : (reply : Reply) → reply ≡ NoMemory (accepted there) → AreTaken base coll k f doing page there reply
        taken_stopped_cut reply e = taken_so there st t' r' None known' reply (subst (TellsSo there st t' None doing) (sym e) (cut there st t' None doing (accepted there) known'.wrote))

    -- ---- what was served

    abbrev j : Job
    j = changes_many f doing page

    abbrev AreSorted : List Sight → Type 0
    AreSorted ss = Each (λ s. ascends (rows_now base coll s) ≡ true) ss

    stopped : (ss : List Sight) (error : ErrorItem) (reply : Reply) → AreSorted ss → IsStopped base coll k j ss error → TellsStop base coll k j ss error reply → AreTaken base coll k f doing page ss reply
    stopped [] error reply sorted h e = absurd h
    stopped (s ∷ earlier) error reply sorted h e = taken_stopped earlier sorted.1 (part_steps base coll k f doing page earlier h.0) h.1 s error h.2 reply e

    stopped_cut : (ss : List Sight) (error : ErrorItem) (reply : Reply) → AreSorted ss → IsStopped base coll k j ss error → reply ≡ NoMemory (accepted ss) → AreTaken base coll k f doing page ss reply
    stopped_cut [] error reply sorted h e = absurd h
    stopped_cut (s ∷ earlier) error reply sorted h e = taken_stopped_cut earlier sorted.1 (part_steps base coll k f doing page earlier h.0) h.1 s error h.2 reply e

    -- on a base whose rows are in order of id
    pub many_taken : (H : List Entry) → InOrder base.collections → (trace : List Item) (reply : Reply) → Serves base coll k j (sights H trace) reply → AreTaken base coll k f doing page (sights H trace) reply
    many_taken H ordered trace reply h =
        let ss = sights H trace in
        let sorted : AreSorted ss = sights_rows base H coll ordered trace in
        ⊎_elim
        (λ a. taken_answered ss sorted (part_steps base coll k f doing page ss a.0) reply a.1)
        (λ more. ⊎_elim
        (λ (z : (error : ErrorItem) × IsStopped base coll k j ss error × TellsStop base coll k j ss error reply). stopped ss z.0 reply sorted z.1 z.2)
        (λ off. ⊎_elim
        (λ part. taken_cut ss sorted (part_steps base coll k f doing page ss part) reply off.1)
        (λ (z : (error : ErrorItem) × IsStopped base coll k j ss error). stopped_cut ss z.0 reply sorted z.1 off.1)
        off.0)
        more)
        h
