-- What the next sight makes of a command that takes many documents, by cases on its turn.
use Rattle.std.proofs.Common.{◌≡◌, ℕ, List, [], ◌∷◌, map, length, Bool, true, false, cond, Option, Some, None, Result, Ok, Err, refl, sym, ap, ◌∙◌, ⊎_elim, ◌⊎◌, inl, inr}
use Rattle.std.specs.Prelude.{◌&&◌, nat_lt, if◌then◌else◌}
use Rattle.std.specs.List.{filter}
use Rattle.std.specs.Ordering.{is_lt}
use Rattle.json_tree.specs.Tree.{Tree}
use Rattle.json_tree.specs.Id.{id_cmp}
use Rattle.shred_cols.specs.Row.{Version}
use Rattle.shred_cols.specs.Rows.{Rows, is_after}
use Rattle.col_keeper.specs.Tables.{Name}
use Rattle.filter_tree.specs.Filters.{FilterTree}
use Rattle.filter_tree.specs.Matches.{matches}
use Rattle.update_ops.specs.declared.fault.UpdateFault.{UpdateFault}
use Rattle.reply_env.specs.declared.update_errors.Loss.{Loss}
use Rattle.store_core.specs.State.{State}
use Rattle.store_core.specs.declared.entry.Change.{Change}
use Rattle.cmd_tasks.specs.Trace.{Sight, Found, found, up_to, rows_now, found_in, seen_by, shown_by, Looks}
use Rattle.cmd_tasks.specs.Attempts.{IsWon, IsLost}
use Rattle.cmd_tasks.specs.Doing.{Doing, change_of}
use Rattle.cmd_tasks.specs.Taking.{Shown, Standing, Put, not_put, was_put, was_taken, settled, settle, win, lose, matching, shown_alone, list_on, replace, with_look, with_item, look_again, Turn, looks_on, looks_again, inserts, is_done, gives_up, take_with, turn_put, turn_again, turn_whole, turn_on, turn_of, turn}
use Rattle.cmd_tasks.specs.Turns.{LooksAlone, IsPage, IsAlone, Follows}
use Rattle.cmd_tasks.specs.Insertions.{IsInserted, IsTaken, IsInsertion}
use Rattle.cmd_tasks.specs.Served.{one_if_wrote}
use Rattle.cmd_tasks.specs.declared.trace.Item.{Item}
use Rattle.cmd_tasks.specs.declared.trace.Item.TheVariants.{Looked, Wrote, Lost, Faulted}
use Rattle.cmd_tasks.proofs.Kept.{settled_put}
use Rattle.cmd_tasks.proofs.Listing.{ids_total, lt_not_le}
use Rattle.cmd_tasks.proofs.Turnings.{IsAtEnd, IsToPut, none_counted}

-- ---- the interval of a look at one id alone has no id

and_false : (b : Bool) → b && false ≡ false
and_false true = refl
and_false false = refl

has_none : (id other : Tree) (m : Bool) → is_after (Some id) other && (up_to (Some id) other && m) ≡ false
has_none id other m = go (is_lt (id_cmp id other)) refl
  where
    go : (b : Bool) → is_lt (id_cmp id other) ≡ b → is_after (Some id) other && (up_to (Some id) other && m) ≡ false
    go false e = ap (λ t. t && (up_to (Some id) other && m)) e
    go true e = ap (λ t. is_after (Some id) other && (t && m)) (lt_not_le (id_cmp id other) (id_cmp other id) (ids_total.antisymm other id) e) ∙ and_false (is_after (Some id) other)

pub alone_shows_none : (f : FilterTree) (id : Tree) (r : Rows) → ◌≡◌ {A = List Found} (found_in r f (Some id) (Some id)) []
alone_shows_none f id [] = refl
alone_shows_none f id (e ∷ r) =
    let rest = filter (λ z. is_after (Some id) z.0 && (up_to (Some id) z.0 && matches f z.1.doc)) r in
    ap (λ t. map found (cond t (e ∷ rest) rest)) (has_none id e.0 (matches f e.1.doc)) ∙ alone_shows_none f id r

-- what a look at one id alone shows is of this id
pub alone_is : (f : FilterTree) (id : Tree) (o : Option Version) (x : Found) (xs : List Found) → matching f id o ≡ x ∷ xs → (x.id ≡ id) × (xs ≡ [])
alone_is f id None x xs e = cc
alone_is f id (Some v) x xs e = go (matches f v.doc) e
  where
    new : Found
    new = record { id = id; tx = v.tx; doc = v.doc }

    go : (b : Bool) → cond b (new ∷ []) [] ≡ x ∷ xs → (x.id ≡ id) × (xs ≡ [])
    go true q = (ap (λ ys. elim ys as (λ _. Tree) [ [] ↦ id | y ∷ ys ↦ y.id ]) (sym q), cc)
    go false q = cc

-- ---- steps

-- how many writes an insertion made
abbrev pub put_writes : Put → ℕ
put_writes not_put = 0
put_writes was_put = 1
put_writes (was_taken found) = 0

module _ (base : State) (coll : Name) (k : ℕ) (f : FilterTree) (doing : Doing) where
  -- a page of the listing
  pub record IsPaged (s : Sight) (st new : Standing) : Type 0 where
    pub first_time : st.again ≡ false
    pub queue : st.queue ≡ []
    pub unended : st.is_whole ≡ false
    pub page : IsPage base coll k f st.from s
    pub new_is : new ≡ settle doing (list_on base coll f s st)
    pub put_is : new.put ≡ st.put
    pub wrote : one_if_wrote s.item ≡ 0

  -- a look at the first of the queue's alone
  pub record IsRelooked (s : Sight) (st new : Standing) : Type 0 where
    pub again : st.again ≡ true
    pub first : Shown
    pub rest : List Shown
    pub queue : st.queue ≡ first ∷ rest
    pub alone : IsAlone base coll k f first.x.id s
    pub new_is : new ≡ settle doing (replace base coll f s (shown_alone base coll f first.x.id s) rest st)
    pub put_is : new.put ≡ st.put
    pub lists : ◌≡◌ {A = List Found} (shown_by base coll f s) []
    pub wrote : one_if_wrote s.item ≡ 0

  -- a write that was accepted
  pub record IsWritten (s : Sight) (st new : Standing) : Type 0 where
    pub first_time : st.again ≡ false
    pub first : Shown
    pub rest : List Shown
    pub queue : st.queue ≡ first ∷ rest
    pub few : nat_lt st.matched 20 ≡ true
    pub change : Change
    pub made : change_of doing first.x.doc ≡ Ok (Some change)
    pub won : IsWon base coll k first.x change s
    pub new_is : new ≡ settle doing (win (first ∷ rest) st)
    pub put_is : new.put ≡ st.put
    pub lists : ◌≡◌ {A = List Found} (shown_by base coll f s) []
    pub wrote : one_if_wrote s.item ≡ 1

  -- a lost attempt
  pub record IsBeaten (s : Sight) (st new : Standing) : Type 0 where
    pub first_time : st.again ≡ false
    pub first : Shown
    pub rest : List Shown
    pub queue : st.queue ≡ first ∷ rest
    pub lost : IsLost base coll k first.look first.x s
    pub loss : Loss
    pub new_is : new ≡ lose loss (first ∷ rest) st
    pub put_is : new.put ≡ st.put
    pub lists : ◌≡◌ {A = List Found} (shown_by base coll f s) []
    pub wrote : one_if_wrote s.item ≡ 0

  -- what an insertion comes to: the document is written, or its id is there
  abbrev pub PutBy : Put → Tree → Sight → Type 0
  PutBy not_put d s = ⊥
  PutBy was_put d s = IsInserted base coll k d s
  PutBy (was_taken None) d s = ⊥
  PutBy (was_taken (Some tx)) d s = IsTaken base coll k d tx s

  -- an insertion, where all was listed and none was counted
  pub record IsPutting (up : Option (Result Tree UpdateFault)) (s : Sight) (st new : Standing) : Type 0 where
    pub d : Tree
    pub to_put : IsToPut up doing st d
    pub p : Put
    pub by : PutBy p d s
    pub new_is : new ≡ record st { queue = []; put = p }
    pub lists : ◌≡◌ {A = List Found} (shown_by base coll f s) []
    pub wrote : one_if_wrote s.item ≡ put_writes p

  abbrev pub Steps : Option (Result Tree UpdateFault) → Sight → Standing → Standing → Type 0
  Steps up s st new = IsPaged s st new ⊎ IsRelooked s st new ⊎ IsWritten s st new ⊎ IsBeaten s st new ⊎ IsPutting up s st new

  module _ (up : Option (Result Tree UpdateFault)) (s : Sight) (st : Standing) where
    abbrev new : Standing
    new = with_item base coll f doing s.item s st

    -- a look
    looked : (i : Item) → Looks base coll f (rows_now base coll s) st.from i → (with_item base coll f doing i s st ≡ settle doing (with_look base coll f st.again s st)) × (one_if_wrote i ≡ 0)
    looked (Looked at after up page) h = (refl, refl)
    looked (Wrote at) h = absurd h
    looked (Lost at read old) h = absurd h
    looked (Faulted at before count) h = absurd h

    alone : (i : Item) (id : Tree) (xs : List Found) → LooksAlone id xs i → (with_item base coll f doing i s st ≡ settle doing (with_look base coll f st.again s st)) × (◌≡◌ {A = List Found} (seen_by base coll f (rows_now base coll s) i) []) × (one_if_wrote i ≡ 0)
    alone (Looked at after up page) id xs h = (refl, (λ j. found_in (rows_now base coll s) f (h.0 j) (h.1 j)) ∙ alone_shows_none f id (rows_now base coll s), refl)
    alone (Wrote at) id xs h = absurd h
    alone (Lost at read old) id xs h = absurd h
    alone (Faulted at before count) id xs h = absurd h

    pages : st.again ≡ false → st.queue ≡ [] → st.is_whole ≡ false → IsPage base coll k f st.from s → Steps up s st new
    pages first_time queue unended page =
        let facts = looked s.item page.0.1 in
        let is : new ≡ settle doing (list_on base coll f s st) = facts.0 ∙ ap (λ b. settle doing (with_look base coll f b s st)) first_time in
        let next = list_on base coll f s st in
        inl (record { first_time = first_time; queue = queue; unended = unended; page = page; new_is = is; put_is = ap (λ (z : Standing). z.put) is ∙ settled_put doing next.queue next; wrote = facts.1 })

    replaced_put : (xs : List Found) (rest : List Shown) → (replace base coll f s xs rest st).put ≡ st.put
    replaced_put [] rest = refl
    replaced_put (x ∷ xs) rest = refl

    relooks : st.again ≡ true → (first : Shown) (rest : List Shown) → st.queue ≡ first ∷ rest → IsAlone base coll k f first.x.id s → Steps up s st new
    relooks again first rest queue is =
        let facts = alone s.item first.x.id _ is.1 in
        let next = replace base coll f s (shown_alone base coll f first.x.id s) rest st in
        let new_is : new ≡ settle doing next = facts.0 ∙ (ap (λ b. settle doing (with_look base coll f b s st)) again ∙ ap (λ q. settle doing (look_again base coll f s q st)) queue) in
        inr (inl (record {
          again = again;
          first = first;
          rest = rest;
          queue = queue;
          alone = is;
          new_is = new_is;
          put_is = ap (λ (z : Standing). z.put) new_is ∙ (settled_put doing next.queue next ∙ replaced_put (shown_alone base coll f first.x.id s) rest);
          lists = facts.1;
          wrote = facts.2;
        }))

    tries : st.again ≡ false → (first : Shown) (rest : List Shown) → st.queue ≡ first ∷ rest → nat_lt st.matched 20 ≡ true → (change : Change) → change_of doing first.x.doc ≡ Ok (Some change)
        → IsWon base coll k first.x change s ⊎ IsLost base coll k first.look first.x s → Steps up s st new
    tries first_time first rest queue few change made h = ⊎_elim
        (λ (won : IsWon base coll k first.x change s).
        let is : new ≡ settle doing (win (first ∷ rest) st) = ap (λ i. with_item base coll f doing i s st) won.wrote.0 ∙ ap (λ q. settle doing (win q st)) queue in
        inr (inr (inl (record {
          first_time = first_time;
          first = first;
          rest = rest;
          queue = queue;
          few = few;
          change = change;
          made = made;
          won = won;
          new_is = is;
          put_is = ap (λ (z : Standing). z.put) is ∙ settled_put doing rest (win (first ∷ rest) st);
          lists = ap (seen_by base coll f (rows_now base coll s)) won.wrote.0;
          wrote = ap one_if_wrote won.wrote.0;
        }))))
        (λ (lost : IsLost base coll k first.look first.x s).
        let loss : Loss = record { read = first.x.tx; found = lost.found } in
        let is : new ≡ lose loss (first ∷ rest) st = ap (λ i. with_item base coll f doing i s st) lost.item ∙ ap (λ q. lose loss q st) queue in
        inr (inr (inr (inl (record {
          first_time = first_time;
          first = first;
          rest = rest;
          queue = queue;
          lost = lost;
          loss = loss;
          new_is = is;
          put_is = ap (λ (z : Standing). z.put) is;
          lists = ap (seen_by base coll f (rows_now base coll s)) lost.item;
          wrote = ap one_if_wrote lost.item;
        })))))
        h

    puts : (d : Tree) → IsToPut up doing st d → IsInsertion base coll k d s → Steps up s st new
    puts d is h = ⊎_elim
        (λ (i : IsInserted base coll k d s). inr (inr (inr (inr (record {
          d = d;
          to_put = is;
          p = was_put;
          by = i;
          new_is = ap (λ z. with_item base coll f doing z s st) i.wrote.0 ∙ (ap (λ q. settle doing (win q st)) is.at_end.queue ∙ ap (λ q. settled doing q (record st { put = was_put })) is.at_end.queue);
          lists = ap (seen_by base coll f (rows_now base coll s)) i.wrote.0;
          wrote = ap one_if_wrote i.wrote.0;
        })))))
        (λ (t : (tx : ℕ) × IsTaken base coll k d tx s). inr (inr (inr (inr (record {
          d = d;
          to_put = is;
          p = was_taken (Some t.0);
          by = t.1;
          new_is = ap (λ z. with_item base coll f doing z s st) t.1.item ∙ ((λ j. lose (record { read = 0; found = Some t.0 }) (is.at_end.queue j) st) ∙ (λ j. record st { queue = is.at_end.queue j; put = was_taken (Some t.0) }));
          lists = ap (seen_by base coll f (rows_now base coll s)) t.1.item;
          wrote = ap one_if_wrote t.1.item;
        })))))
        h

    -- each sight that follows is one of these
    pub steps : Follows base coll k f (turn up doing st) s → Steps up s st new
    steps h = by_again st.again refl h
      where
        by_up : IsAtEnd st → (p : Put) → st.put ≡ p → (o : Option (Result Tree UpdateFault)) → up ≡ o → Follows base coll k f (turn_put p o) s → Steps up s st new
        by_up is not_put unput None due h = absurd h
        by_up is not_put unput (Some (Ok d)) due h = puts d (record { at_end = is; unput = unput; due = due }) h
        by_up is not_put unput (Some (Err fault)) due h = absurd h
        by_up is was_put unput None due h = absurd h
        by_up is was_put unput (Some (Ok d)) due h = absurd h
        by_up is was_put unput (Some (Err fault)) due h = absurd h
        by_up is (was_taken None) unput None due h = absurd h
        by_up is (was_taken None) unput (Some o) due h = absurd h
        by_up is (was_taken (Some tx)) unput None due h = absurd h
        by_up is (was_taken (Some tx)) unput (Some (Ok d)) due h = absurd h
        by_up is (was_taken (Some tx)) unput (Some (Err fault)) due h = absurd h

        by_matched : st.again ≡ false → st.queue ≡ [] → st.is_whole ≡ true → (b : Bool) → nat_lt 0 st.matched ≡ b → Follows base coll k f (if b then is_done false else turn_put st.put up) s → Steps up s st new
        by_matched first_time queue whole true some h = absurd h
        by_matched first_time queue whole false none h = by_up (record { first_time = first_time; queue = queue; whole = whole; none = none_counted st.matched none }) st.put refl up refl h

        by_change : st.again ≡ false → (first : Shown) (rest : List Shown) → st.queue ≡ first ∷ rest → nat_lt st.matched 20 ≡ true → (r : Result (Option Change) UpdateFault) → change_of doing first.x.doc ≡ r
            → Follows base coll k f (take_with first r) s → Steps up s st new
        by_change first_time first rest queue few (Ok (Some change)) made h = tries first_time first rest queue few change made h
        by_change first_time first rest queue few (Ok None) made h = absurd h
        by_change first_time first rest queue few (Err fault) made h = absurd h

        by_count : st.again ≡ false → (first : Shown) (rest : List Shown) → st.queue ≡ first ∷ rest → (b : Bool) → nat_lt st.matched 20 ≡ b
            → Follows base coll k f (if b then take_with first (change_of doing first.x.doc) else is_done true) s → Steps up s st new
        by_count first_time first rest queue true few h = by_change first_time first rest queue few (change_of doing first.x.doc) refl h
        by_count first_time first rest queue false few h = absurd h

        by_end : st.again ≡ false → st.queue ≡ [] → (b : Bool) → st.is_whole ≡ b → Follows base coll k f (if b then turn_whole up st else looks_on st.from) s → Steps up s st new
        by_end first_time queue true whole h = by_matched first_time queue whole (nat_lt 0 st.matched) refl h
        by_end first_time queue false ended h = pages first_time queue ended h

        by_queue : st.again ≡ false → (q : List Shown) → st.queue ≡ q → Follows base coll k f (turn_on up doing q st) s → Steps up s st new
        by_queue first_time [] queue h = by_end first_time queue st.is_whole refl h
        by_queue first_time (first ∷ rest) queue h = by_count first_time first rest queue (nat_lt st.matched 20) refl h

        by_losses : st.again ≡ true → (first : Shown) (rest : List Shown) → st.queue ≡ first ∷ rest → (b : Bool)
            → Follows base coll k f (if b then looks_again first.x.id else gives_up) s → Steps up s st new
        by_losses again first rest queue true h = relooks again first rest queue h
        by_losses again first rest queue false h = absurd h

        by_queue_again : st.again ≡ true → (q : List Shown) → st.queue ≡ q → Follows base coll k f (turn_again q st) s → Steps up s st new
        by_queue_again again [] queue h = absurd h
        by_queue_again again (first ∷ rest) queue h = by_losses again first rest queue (nat_lt (length st.losses) 4) h

        by_again : (b : Bool) → st.again ≡ b → Follows base coll k f (turn_of up b doing st) s → Steps up s st new
        by_again true again h = by_queue_again again st.queue refl h
        by_again false first_time h = by_queue first_time st.queue refl h
