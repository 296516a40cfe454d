-- What one call of the store means for a request that is under way.
use Rattle.std.proofs.Common.{◌≡◌, ℕ, List, [], ◌∷◌, ◌++◌, map, take, length, Bool, true, false, cond, Option, Some, None, refl, sym, ap, ◌∙◌, subst, arith, append-nil, eq-eqb, inr}
use Rattle.std.specs.Prelude.{slice_get, IfSome}
use Rattle.std.specs.List.{filter}
use Rattle.std.proofs.Math.Seq.{take-length, take-append_seam}
use Rattle.outside_io.specs.Causes.{Rose}
use Rattle.json_tree.specs.Tree.{Tree}
use Rattle.shred_cols.specs.Row.{Version}
use Rattle.shred_cols.specs.Rows.{Rows, ascends}
use Rattle.col_keeper.specs.Tables.{Name, rows_in}
use Rattle.col_keeper.specs.Pages.{IsPage}
use Rattle.filter_tree.specs.Filters.{FilterTree}
use Rattle.filter_tree.specs.Matches.{matches}
use Rattle.reply_env.specs.Messages as errors
use Rattle.reply_env.specs.declared.reply.Reply.{Reply}
use Rattle.store_core.specs.State.{State, IsGone}
use Rattle.store_core.specs.Journal.{replay}
use Rattle.store_core.specs.Outcomes.{ShowsPage}
use Rattle.store_core.specs.Counts.{by_of}
use Rattle.store_core.specs.declared.entry.Entry.{Entry}
use Rattle.store_core.specs.declared.entry.Entry.TheVariants.{Created, Dropped, Changed, Failed}
use Rattle.store_core.specs.declared.entry.Change.{Change}
use Rattle.cmd_tasks.specs.Trace.{sight, rows_now, found_in, probed_in, probe_of}
use Rattle.cmd_tasks.specs.Served.{Stops}
use Rattle.cmd_tasks.specs.Session.{is_work, AreCounted}
use Rattle.cmd_tasks.specs.Pages.{found_row, up_of}
use Rattle.cmd_tasks.specs.Looking.{Made, GoesUp, IsLooked, ShowsRows, ShowsNothing, StopsWith, Glances, Sees, StopsSo, Refuses}
use Rattle.cmd_tasks.specs.declared.trace.Item.{Item}
use Rattle.cmd_tasks.specs.declared.trace.Item.TheVariants.{Looked, Wrote, Lost, Faulted}
use Rattle.cmd_tasks.specs.declared.work.Glance.{Glance}
use Rattle.cmd_tasks.specs.declared.work.Glance.TheVariants as g
use Rattle.cmd_tasks.proofs.Listing.{page_shows, page_full, map_of_map}

-- ---- items at the end of the history

pub looked_here : (k low high : ℕ) (H H' : List Entry) (i : Item) (at : ℕ) (after up : Option Tree) (pairs : List (Tree × ℕ)) → H' ≡ H → at ≡ length H → IsLooked i at after up pairs → Made k low high H H' i
looked_here k low high H H' (Looked a from to page) at after up pairs same here is = record {
  more = [];
  longer = same ∙ sym (append-nil H);
  records = record { here = is.0 ∙ here; stands = omega (arith, is.0, here); own = refl };
  risen = tt;
  alone = tt;
  counted = tt;
}
looked_here k low high H H' (Wrote a) at after up pairs same here is = absurd is
looked_here k low high H H' (Lost a read f) at after up pairs same here is = absurd is
looked_here k low high H H' (Faulted a b c) at after up pairs same here is = absurd is

pub failed_here : (k low high : ℕ) (H H' : List Entry) (at before count : ℕ) → H' ≡ H ++ Failed k before count ∷ [] → at ≡ length H → Rose before count → before ≡ low → count ≡ high → Made k low high H H' (Faulted at before count)
failed_here k low high H H' at before count longer here rose low_is high_is = record {
  risen = rose;
  alone = (refl, tt);
  counted = (omega (arith, low_is), omega (arith, high_is), tt);
  more = Failed k before count ∷ [];
  longer = longer;
  records = record { here = here; stands = omega (arith, here); own = ap (λ (b : Bool). cond b (length H ∷ []) []) (eq-eqb k k refl) ∙ ap (λ (n : ℕ). n ∷ []) (sym here) };
}

-- an item that wrote, and its entry
pub entered_here : (k low high : ℕ) (H H' : List Entry) (at : ℕ) (e : Entry) → is_work k e ≡ true → by_of e ≡ k → AreCounted low high (e ∷ []) → H' ≡ H ++ e ∷ [] → at ≡ length H → Made k low high H H' (Wrote at)
entered_here k low high H H' at e work by_is counted longer here = record {
  risen = tt;
  alone = (by_is, tt);
  counted = counted;
  more = e ∷ [];
  longer = longer;
  records = record { here = here; stands = omega (arith, here); own = ap (λ (b : Bool). cond b (length H ∷ []) []) work ∙ ap (λ (n : ℕ). n ∷ []) (sym here) };
}

pub wrote_here : (k low high : ℕ) (H H' : List Entry) (at tx : ℕ) (coll : Name) (id : Tree) (change : Change) (before : Option ℕ) → H' ≡ H ++ Changed k coll id change before tx ∷ [] → at ≡ length H → Made k low high H H' (Wrote at)
wrote_here k low high H H' at tx coll id change before longer here = entered_here k low high H H' at (Changed k coll id change before tx) (eq-eqb k k refl) refl tt longer here

pub created_here : (k low high : ℕ) (H H' : List Entry) (at : ℕ) (coll : Name) → H' ≡ H ++ Created k coll ∷ [] → at ≡ length H → Made k low high H H' (Wrote at)
created_here k low high H H' at coll longer here = entered_here k low high H H' at (Created k coll) (eq-eqb k k refl) refl tt longer here

pub dropped_here : (k low high : ℕ) (H H' : List Entry) (at : ℕ) (coll : Name) → H' ≡ H ++ Dropped k coll ∷ [] → at ≡ length H → Made k low high H H' (Wrote at)
dropped_here k low high H H' at coll longer here = entered_here k low high H H' at (Dropped k coll) (eq-eqb k k refl) refl tt longer here

pub lost_here : (k low high : ℕ) (H H' : List Entry) (at read : ℕ) (found : Option ℕ) → H' ≡ H → at ≡ length H → Made k low high H H' (Lost at read found)
lost_here k low high H H' at read found same here = record {
  more = [];
  longer = same ∙ sym (append-nil H);
  records = record { here = here; stands = omega (arith, here); own = refl };
  risen = tt;
  alone = tt;
  counted = tt;
}

at_end : {A : Type 0} (xs : List A) (a : A) → slice_get (xs ++ a ∷ []) (length xs) ≡ Some a
at_end [] a = refl
at_end (x ∷ xs) a = at_end xs a

-- an item that wrote nothing saw the whole history
pub saw : (H H' : List Entry) (at : ℕ) → H' ≡ H → at ≡ length H → take at H' ≡ H
saw H H' at same here = ap (λ (n : ℕ). take n H') here ∙ (ap (λ (l : List Entry). take (length H) l) same ∙ take-length H)

-- an item that wrote saw the history before its entry, and the entry
pub saw_before : (H H' : List Entry) (e : Entry) (at : ℕ) → H' ≡ H ++ e ∷ [] → at ≡ length H → take at H' ≡ H
saw_before H H' e at longer here = ap (λ (n : ℕ). take n H') here ∙ (ap (λ (l : List Entry). take (length H) l) longer ∙ take-append_seam H (e ∷ []))

pub saw_entry : (H H' : List Entry) (e : Entry) (at : ℕ) → H' ≡ H ++ e ∷ [] → at ≡ length H → slice_get H' at ≡ Some e
saw_entry H H' e at longer here = ap (λ (n : ℕ). slice_get H' n) here ∙ (ap (λ (l : List Entry). slice_get l (length H)) longer ∙ at_end H e)

-- a page, told or not
pub shown_glances : (k low high : ℕ) (last : Option Tree) (H H' : List Entry) (f : FilterTree) (at : ℕ) (page : List Version) (end : Bool) (o : Glance) → H' ≡ H → at ≡ length H → GoesUp last (up_of end page) → ShowsRows f at last page end o → Glances k low high last H H' o
shown_glances k low high last H H' f at page end (g.Shown item rs up) same here p is = (looked_here k low high H H' item at last _ _ same here is.2, subst (GoesUp last) (sym is.1) p, same)
shown_glances k low high last H H' f at page end (g.Ended item r) same here p is = absurd is
shown_glances k low high last H H' f at page end g.NoMemory same here p is = same

-- no page, told or not
pub gone_glances : (k low high : ℕ) (last : Option Tree) (H H' : List Entry) (at : ℕ) (P : Reply → Type 0) (o : Glance) → H' ≡ H → at ≡ length H → ShowsNothing at last P o → Glances k low high last H H' o
gone_glances k low high last H H' at P (g.Shown item rs up) same here is = absurd is
gone_glances k low high last H H' at P (g.Ended item r) same here is = looked_here k low high H H' item at last None [] same here is.0
gone_glances k low high last H H' at P g.NoMemory same here is = absurd is

pub fault_glances : (k low high : ℕ) (last : Option Tree) (H H' : List Entry) (at before count : ℕ) (P : Reply → Type 0) (o : Glance) → H' ≡ H ++ Failed k before count ∷ [] → at ≡ length H → Rose before count → before ≡ low → count ≡ high
    → StopsWith (Faulted at before count) P o → Glances k low high last H H' o
fault_glances k low high last H H' at before count P (g.Shown item rs up) longer here rose low_is high_is is = absurd is
fault_glances k low high last H H' at before count P (g.Ended item r) longer here rose low_is high_is is =
    subst (λ (i : Item). Made k low high H H' i) (sym is.0) (failed_here k low high H H' at before count longer here rose low_is high_is)
fault_glances k low high last H H' at before count P g.NoMemory longer here rose low_is high_is is = absurd is

module _ (base : State) (coll : Name) (k : ℕ) where
  -- a page of the rows that stand there
  pub shown_sees : (last : Option Tree) (H H' : List Entry) (f : FilterTree) (at : ℕ) (page : List Version) (end : Bool) (r : Rows) (o : Glance) → H' ≡ H → at ≡ length H
      → rows_in coll (replay base H).collections ≡ Some r → ascends r ≡ true → IsPage last 64 page end → ShowsPage (probe_of f) last r page end → ShowsRows f at last page end o → Sees base coll k H' f last o
  shown_sees last H H' f at page end r (g.Shown (Looked a from to pairs) rs up) same here lives sorted p s is =
      let matched : List Version = filter (λ v. matches f v.doc) page in
      let at_is = is.2.0 in let from_is = is.2.1 in let to_is = is.2.2 in let pairs_are = is.2.3 in
      let lives' : rows_in coll (replay base (take a H')).collections ≡ Some r = ap (λ (l : List Entry). rows_in coll (replay base l).collections) (saw H H' a same (at_is ∙ here)) ∙ lives in
      let rows_are : rows_now base coll (sight H' (Looked a from to pairs)) ≡ r = ap (λ (o : Option Rows). elim o as (λ _. Rows) [ None ↦ [] | Some x ↦ x ]) lives' in
      let shows : found_in (rows_now base coll (sight H' (Looked a from to pairs))) f from to ≡ map found_row matched = (λ i. found_in (rows_are i) f (from_is i) (to_is i)) ∙ page_shows f last r page end sorted p s in (
        ((r, lives'), (from_is, pairs_are ∙ (sym (map_of_map found_row (λ x. (x.id, x.tx)) matched) ∙ sym (ap (map (λ x. (x.id, x.tx))) shows)))),
        shows ∙ ap (map found_row) (sym is.0),
        to_is ∙ sym is.1,
        full end p s up is.1 to_is rows_are from_is,
        ap ascends rows_are ∙ sorted,
      )
    where
      full : (end' : Bool) → IsPage last 64 page end' → ShowsPage (probe_of f) last r page end' → (up' : Option Tree) → up' ≡ up_of end' page → {to' from' : Option Tree} {r' : Rows} → to' ≡ up_of end' page → r' ≡ r → from' ≡ last
          → IfSome up' (λ u. ((z : Tree) × (to' ≡ Some z)) × (probed_in r' f from' to' ≡ 64))
      full true p' s' None e t r_is f_is = tt
      full true p' s' (Some u) e t r_is f_is = cc
      full false p' s' None e t r_is f_is = tt
      full false p' s' (Some u) e t r_is f_is = ((u, t ∙ sym e), (λ i. probed_in (r_is i) f (f_is i) (t i)) ∙ page_full f last r page sorted p' s')
  shown_sees last H H' f at page end r (g.Shown (Wrote a) rs up) same here lives sorted p s is = absurd is.2
  shown_sees last H H' f at page end r (g.Shown (Lost a read x) rs up) same here lives sorted p s is = absurd is.2
  shown_sees last H H' f at page end r (g.Shown (Faulted a b c) rs up) same here lives sorted p s is = absurd is.2
  shown_sees last H H' f at page end r (g.Ended item x) same here lives sorted p s is = absurd is
  shown_sees last H H' f at page end r g.NoMemory same here lives sorted p s is = tt

  -- a failed call stops the request
  pub failed_stops : (marks : Option Tree → Option Tree → Type 0) (to_write : Type 0) (H H' : List Entry) (at before count : ℕ) → H' ≡ H ++ Failed k before count ∷ [] → at ≡ length H
      → Stops base coll k marks to_write (Faulted at before count) (sight H' (Faulted at before count)) (errors.store_fault before count)
  failed_stops marks to_write H H' at before count longer here = (saw_entry H H' (Failed k before count) at longer here, refl)

  -- a listing at a point where the collection doesn't live
  pub gone_stops : (last : Option Tree) (H H' : List Entry) (at : ℕ) (item : Item) (reply : Reply) → H' ≡ H → at ≡ length H → IsLooked item at last None [] → IsGone coll (replay base H)
      → Refuses (errors.no_collection coll) reply → StopsSo base coll k H' last item reply
  gone_stops last H H' at (Looked a from to pairs) reply same here is gone refuses =
      let past : take a H' ≡ H = saw H H' a same (is.0 ∙ here) in
      (errors.no_collection coll, ((is.1, is.2), is.3, inr (λ w. absurd w, subst (IsGone coll) (ap (replay base) (sym past)) gone, refl)), refuses)
  gone_stops last H H' at (Wrote a) reply same here is gone refuses = absurd is
  gone_stops last H H' at (Lost a read f) reply same here is gone refuses = absurd is
  gone_stops last H H' at (Faulted a b c) reply same here is gone refuses = absurd is

  pub fault_stops : (last : Option Tree) (H H' : List Entry) (at before count : ℕ) (reply : Reply) → H' ≡ H ++ Failed k before count ∷ [] → at ≡ length H
      → Refuses (errors.store_fault before count) reply → StopsSo base coll k H' last (Faulted at before count) reply
  fault_stops last H H' at before count reply longer here refuses = (errors.store_fault before count, (saw_entry H H' (Failed k before count) at longer here, refl), refuses)

  pub gone_sees : (last : Option Tree) (H H' : List Entry) (f : FilterTree) (at : ℕ) (o : Glance) → H' ≡ H → at ≡ length H → IsGone coll (replay base H)
      → ShowsNothing at last (Refuses (errors.no_collection coll)) o → Sees base coll k H' f last o
  gone_sees last H H' f at (g.Shown item rs up) same here gone is = absurd is
  gone_sees last H H' f at (g.Ended item r) same here gone is = gone_stops last H H' at item r same here is.0 gone is.1
  gone_sees last H H' f at g.NoMemory same here gone is = absurd is

  pub fault_sees : (last : Option Tree) (H H' : List Entry) (f : FilterTree) (at before count : ℕ) (o : Glance) → H' ≡ H ++ Failed k before count ∷ [] → at ≡ length H
      → StopsWith (Faulted at before count) (Refuses (errors.store_fault before count)) o → Sees base coll k H' f last o
  fault_sees last H H' f at before count (g.Shown item rs up) longer here is = absurd is
  fault_sees last H H' f at before count (g.Ended item r) longer here is =
      subst (λ (i : Item). StopsSo base coll k H' last i r) (sym is.0) (fault_stops last H H' at before count r longer here is.1)
  fault_sees last H H' f at before count g.NoMemory longer here is = absurd is
