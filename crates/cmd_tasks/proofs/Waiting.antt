-- What waits to be taken stood as it was shown, and the request wrote nothing to it. Each sight keeps that.
use Rattle.std.proofs.Common.{◌≡◌, ◌⊎◌, ℕ, suc, List, [], ◌∷◌, Bool, true, false, Option, Some, None, refl, sym, ap, ◌∙◌, subst, inl, inr, ⊎_elim, Ordering, Less, Equal, Greater}
use Rattle.std.specs.Prelude.{◌&&◌, ◌||◌, IfSome, is_none, nat_lt, option_and_then, if◌then◌else◌}
use Rattle.std.specs.List.{AllByRecursion as Each}
use Rattle.std.specs.Ordering.{is_lt, is_le, is_eq, eq_by_cmp}
use Rattle.std.specs.Str.{bytes_eq}
use Rattle.std.proofs.lemmas.Cmp.{tied_itself}
use Rattle.json_tree.specs.Tree.{Tree}
use Rattle.json_tree.specs.Id.{id_cmp}
use Rattle.shred_cols.specs.Rows.{Rows, ascends, version_of, is_after}
use Rattle.col_keeper.specs.Tables.{Name}
use Rattle.filter_tree.specs.Filters.{FilterTree}
use Rattle.store_core.specs.State.{State as Base, version}
use Rattle.store_core.specs.Numbers.{touches}
use Rattle.store_core.specs.declared.entry.Change.{Change}
use Rattle.store_core.specs.declared.entry.Entry.{Entry}
use Rattle.store_core.specs.declared.entry.Entry.TheVariants.{Changed}
use Rattle.cmd_tasks.specs.Trace.{Sight, Found, up_to, now, rows_now, shown_by, seen_by, found_in, end_of, Looks, IsLook, FullPage}
use Rattle.cmd_tasks.specs.Attempts.{IsOneOf}
use Rattle.cmd_tasks.specs.Searches.{stored}
use Rattle.cmd_tasks.specs.Doing.{Doing, change_of}
use Rattle.cmd_tasks.specs.Taking.{Shown, Standing, at_start, count, is_unchanged, settled, shown_with}
use Rattle.cmd_tasks.specs.Many.{is_written, Ascends, IsWaiting}
use Rattle.cmd_tasks.specs.declared.trace.Item.{Item}
use Rattle.cmd_tasks.specs.declared.trace.Item.TheVariants.{Looked, Wrote, Lost, Faulted}
use Rattle.cmd_tasks.proofs.Listing.{IsBelow, Rises, ids_total, rises}
use Rattle.cmd_tasks.proofs.Searching.{no, both_of, weaker, up_to_more, Ascend, filter_ascends, IsInside, inside, full_between}
use Rattle.cmd_tasks.proofs.Covering.{up_to_after}

-- ---- ids

pub or_of : (a b : Bool) → a || b ≡ true → (a ≡ true) ⊎ (b ≡ true)
or_of true b h = inl refl
or_of false b h = inr h

equal_is : (o : Ordering) → is_eq o ≡ true → o ≡ Equal
equal_is Less e = cc
equal_is Equal e = refl
equal_is Greater e = cc

-- an id that ties with x stands to others as x does
abbrev Ties : Tree → Tree → Type 0
Ties id x = is_eq (id_cmp id x) ≡ true

tied_below : (id x y : Tree) → Ties id x → IsBelow x y → IsBelow id y
tied_below id x y e h = ap is_lt (ids_total.congr id x y (equal_is (id_cmp id x) e)) ∙ h

tied_up_to : (id x u : Tree) → Ties id x → up_to (Some u) x ≡ true → up_to (Some u) id ≡ true
tied_up_to id x u e h = ap is_le (ids_total.congr id x u (equal_is (id_cmp id x) e)) ∙ h

-- a listing that came to there has passed the id
abbrev pub by_from : Option Tree → Bool → Tree → Bool
by_from from whole id = elim from as (λ _. Bool) [ None ↦ whole | Some u ↦ up_to (Some u) id ]

passed_tied : (from : Option Tree) (whole : Bool) (id x : Tree) → Ties id x → by_from from whole x ≡ true → by_from from whole id ≡ true
passed_tied None whole id x e h = h
passed_tied (Some u) whole id x e h = tied_up_to id x u e h

-- what a page has up to its end is passed with it
passed_with : (up : Option Tree) (id : Tree) → up_to up id ≡ true → by_from up (is_none up) id ≡ true
passed_with None id h = refl
passed_with (Some u) id h = h

-- a listing that isn't whole has passed what lies up to its end
passed_by : (from : Option Tree) (id : Tree) → by_from from false id ≡ true → (u : Tree) × (from ≡ Some u) × (up_to (Some u) id ≡ true)
passed_by None id h = absurd (no h)
passed_by (Some u) id h = (u, refl, h)

-- ---- what is shown

each_shown : (s : Sight) (P : Found → Type 0) (xs : List Found) → Each P xs → Each (λ t. P t.x) (shown_with s xs)
each_shown s P [] h = tt
each_shown s P (x ∷ xs) h = (h.0, each_shown s P xs h.1)

shown_ascends : (s : Sight) (xs : List Found) → Ascend xs → Ascends (shown_with s xs)
shown_ascends s [] h = tt
shown_ascends s (x ∷ xs) h = (each_shown s (λ y. IsBelow x.id y.id) xs h.0, shown_ascends s xs h.1)

module _ (base : Base) (coll : Name) where
  -- one of the sights showed it, and it stood there
  abbrev pub IsStood : List Sight → Shown → Type 0
  IsStood sights s = IsOneOf s.look sights × (version (now base coll s.look) coll s.x.id ≡ Some (stored s.x))

  -- these wait where a listing came to there
  pub record Waits (from : Option Tree) (whole : Bool) (queue : List Shown) (sights : List Sight) : Type 0 where
    pub stood : Each (IsStood sights) queue
    pub ascends : Ascends queue
    pub passed : Each (λ s. by_from from whole s.x.id ≡ true) queue
    pub written : (id : Tree) → is_written coll id sights ≡ true → (by_from from whole id ≡ true) × Each (λ s. IsBelow id s.x.id) queue

  abbrev pub WaitsAt : List Sight → Standing → Type 0
  WaitsAt sights st = Waits st.from st.is_whole st.queue sights

  pub waits : (st : Standing) (sights : List Sight) → IsWaiting base coll st sights → WaitsAt sights st
  waits st sights h = record { stood = h.stood; ascends = h.ascends; passed = h.passed; written = h.written }

  pub is_waiting : (st : Standing) (sights : List Sight) → WaitsAt sights st → IsWaiting base coll st sights
  is_waiting st sights h = record { stood = h.stood; ascends = h.ascends; passed = h.passed; written = h.written }

  pub none_waits : (from : Option Tree) → IsWaiting base coll (at_start from) []
  none_waits from = record { stood = tt; ascends = tt; passed = tt; written = λ id w. absurd (no w) }

  stood_more : (s : Sight) (sights : List Sight) (queue : List Shown) → Each (IsStood sights) queue → Each (IsStood (s ∷ sights)) queue
  stood_more s sights queue h = weaker (IsStood sights) (IsStood (s ∷ sights)) queue (λ t z. ((suc z.0.0, z.0.1), z.1)) h

  -- whether the sight's entry or an earlier one wrote to the id
  written_with : (s : Sight) (sights : List Sight) (id : Tree) (o : Option Entry) → s.entry ≡ o → is_written coll id (s ∷ sights) ≡ (elim o as (λ _. Bool) [ None ↦ false | Some e ↦ touches coll id e ]) || is_written coll id sights
  written_with s sights id o e = ap (λ (z : Option Entry). (elim z as (λ _. Bool) [ None ↦ false | Some x ↦ touches coll id x ]) || is_written coll id sights) e

  -- a sight that wrote nothing
  pub waits_quiet : (from : Option Tree) (whole : Bool) (queue : List Shown) (s : Sight) (sights : List Sight) → s.entry ≡ None → Waits from whole queue sights → Waits from whole queue (s ∷ sights)
  waits_quiet from whole queue s sights e h = record {
    stood = stood_more s sights queue h.stood;
    ascends = h.ascends;
    passed = h.passed;
    written = λ id w. h.written id (sym (written_with s sights id None e) ∙ w);
  }

  waits_rest : (from : Option Tree) (whole : Bool) (first : Shown) (rest : List Shown) (sights : List Sight) → Waits from whole (first ∷ rest) sights → Waits from whole rest sights
  waits_rest from whole first rest sights h = record {
    stood = h.stood.1;
    ascends = h.ascends.1;
    passed = h.passed.1;
    written = λ id w. let z = h.written id w in (z.0, z.1.1);
  }

  -- the first ones are counted
  pub waits_settled : (doing : Doing) (queue : List Shown) (st : Standing) (sights : List Sight) → Waits st.from st.is_whole queue sights → WaitsAt sights (settled doing queue st)
  waits_settled doing [] st sights h = h
  waits_settled doing (s ∷ rest) st sights h = elim (nat_lt st.matched 20 && is_unchanged (change_of doing s.x.doc)) as (λ b. WaitsAt sights (if b then settled doing rest (count s.x 0 rest st) else record st { queue = s ∷ rest })) [
    | true ↦ waits_settled doing rest (count s.x 0 rest st) sights (waits_rest st.from st.is_whole s rest sights h)
    | false ↦ h
  ]

  -- the first one is written
  pub waits_won : (from : Option Tree) (whole : Bool) (first : Shown) (rest : List Shown) (s : Sight) (sights : List Sight) (k : ℕ) (change : Change) (before : Option ℕ) (tx : ℕ) → s.entry ≡ Some (Changed k coll first.x.id change before tx)
      → Waits from whole (first ∷ rest) sights → Waits from whole rest (s ∷ sights)
  waits_won from whole first rest s sights k change before tx e h = record {
    stood = stood_more s sights rest h.stood.1;
    ascends = h.ascends.1;
    passed = h.passed.1;
    written = λ id w. ⊎_elim
        (λ (t : bytes_eq coll coll && eq_by_cmp id_cmp id first.x.id ≡ true).
        let tie : Ties id first.x.id = (both_of (bytes_eq coll coll) (eq_by_cmp id_cmp id first.x.id) t).1 in
        (passed_tied from whole id first.x.id tie h.passed.0, weaker (λ z. IsBelow first.x.id z.x.id) (λ z. IsBelow id z.x.id) rest (λ z b. tied_below id first.x.id z.x.id tie b) h.ascends.0))
        (λ (o : is_written coll id sights ≡ true). let z = h.written id o in (z.0, z.1.1))
        (or_of _ _ (sym (written_with s sights id (Some (Changed k coll first.x.id change before tx)) e) ∙ w));
  }

  -- the first one is shown again
  pub waits_again : (from : Option Tree) (whole : Bool) (first : Shown) (rest : List Shown) (x : Found) (s : Sight) (sights : List Sight) → s.entry ≡ None → x.id ≡ first.x.id → version (now base coll s) coll x.id ≡ Some (stored x)
      → Waits from whole (first ∷ rest) sights → Waits from whole (record { x = x; look = s } ∷ rest) (s ∷ sights)
  waits_again from whole first rest x s sights e id_is stands h =
      let more = waits_quiet from whole (first ∷ rest) s sights e h in record {
        stood = (((0, refl), stands), more.stood.1);
        ascends = (subst (λ (i : Tree). Each (λ z. IsBelow i z.x.id) rest) (sym id_is) more.ascends.0, more.ascends.1);
        passed = (subst (λ (i : Tree). by_from from whole i ≡ true) (sym id_is) more.passed.0, more.passed.1);
        written = λ id w. let z = more.written id w in (z.0, (subst (λ (i : Tree). IsBelow id i) (sym id_is) z.1.0, z.1.1));
      }

  -- the first one is passed over
  pub waits_over : (from : Option Tree) (whole : Bool) (first : Shown) (rest : List Shown) (s : Sight) (sights : List Sight) → s.entry ≡ None → Waits from whole (first ∷ rest) sights → Waits from whole rest (s ∷ sights)
  waits_over from whole first rest s sights e h = waits_rest from whole first rest (s ∷ sights) (waits_quiet from whole (first ∷ rest) s sights e h)

  -- the request wrote nothing to the first one
  pub unwritten : (from : Option Tree) (whole : Bool) (first : Shown) (rest : List Shown) (sights : List Sight) → Waits from whole (first ∷ rest) sights → is_written coll first.x.id sights ≡ false
  unwritten from whole first rest sights h = elim (is_written coll first.x.id sights) as (λ b. is_written coll first.x.id sights ≡ b → b ≡ false) [
    | true ↦ λ w. absurd (no (sym (ap is_lt (tied_itself ids_total first.x.id)) ∙ (h.written first.x.id w).1.0))
    | false ↦ λ w. refl
  ] refl

  -- ---- a page

  module _ (f : FilterTree) where
    seen_inside : (rs : Rows) (from : Option Tree) (i : Item) → Rises rs → Looks base coll f rs from i → Each (IsInside rs from (end_of i)) (seen_by base coll f rs i) × Ascend (seen_by base coll f rs i)
    seen_inside rs from (Looked at after up page) r l = (subst (λ (a : Option Tree). Each (IsInside rs a up) (found_in rs f after up)) l.0 (inside rs f after up r), filter_ascends _ rs r)
    seen_inside rs from (Wrote at) r l = absurd l
    seen_inside rs from (Lost at read x) r l = absurd l
    seen_inside rs from (Faulted at before n) r l = absurd l

    abbrev rows_or : Option Rows → Rows
    rows_or o = elim o as (λ _. Rows) [ None ↦ [] | Some x ↦ x ]

    -- the page's end lies behind where it began
    passed_more : (from up : Option Tree) (rs : Rows) (i : Item) (id : Tree) → Looks base coll f rs from i → end_of i ≡ up → IfSome up (λ u. FullPage base coll f rs i) → by_from from false id ≡ true → by_from up (is_none up) id ≡ true
    passed_more from None rs i id l e full p = refl
    passed_more from (Some u) rs i id l e full p =
        let z = full_between base coll f rs from i l full in
        let b = passed_by from id p in
        up_to_more b.0 u id z.0.0 b.2 (subst (λ (a : Option Tree). is_after a z.0.0 ≡ true) b.1 z.1) (subst (λ (a : Option Tree). up_to a z.0.0 ≡ true) e z.2)

    pub waits_page : (from : Option Tree) (s : Sight) (sights : List Sight) → IsLook base coll f from s → IfSome (end_of s.item) (λ u. FullPage base coll f (rows_now base coll s) s.item) → ascends (rows_now base coll s) ≡ true → s.entry ≡ None
        → Waits from false [] sights → Waits (end_of s.item) (is_none (end_of s.item)) (shown_with s (shown_by base coll f s)) (s ∷ sights)
    waits_page from s sights look full sorted e h = record {
      stood = shown_stood (shown_by base coll f s) (weaker (IsInside rs from (end_of s.item)) (λ x. version (now base coll s) coll x.id ≡ Some (stored x)) (shown_by base coll f s) (λ x z. stands x z.stands) all.0);
      ascends = shown_ascends s (shown_by base coll f s) all.1;
      passed = each_shown s (λ x. by_from (end_of s.item) (is_none (end_of s.item)) x.id ≡ true) (shown_by base coll f s)
          (weaker (IsInside rs from (end_of s.item)) (λ x. by_from (end_of s.item) (is_none (end_of s.item)) x.id ≡ true) (shown_by base coll f s) (λ x z. passed_with (end_of s.item) x.id z.within) all.0);
      written = λ id w.
          let p : by_from from false id ≡ true = (h.written id (sym (written_with s sights id None e) ∙ w)).0 in
          let b = passed_by from id p in (
            passed_more from (end_of s.item) rs s.item id look.1 refl full p,
            each_shown s (λ x. IsBelow id x.id) (shown_by base coll f s)
                (weaker (IsInside rs from (end_of s.item)) (λ x. IsBelow id x.id) (shown_by base coll f s) (λ x z. up_to_after id b.0 x.id b.2 (subst (λ (a : Option Tree). is_after a x.id ≡ true) b.1 z.behind)) all.0),
          );
    }
      where
        rs : Rows
        rs = rows_now base coll s

        all : Each (IsInside rs from (end_of s.item)) (shown_by base coll f s) × Ascend (shown_by base coll f s)
        all = seen_inside rs from s.item (rises rs sorted) look.1

        stands : (x : Found) → version_of x.id rs ≡ Some (stored x) → version (now base coll s) coll x.id ≡ Some (stored x)
        stands x z = ap (option_and_then (version_of x.id)) look.0.1 ∙ (sym (ap (λ (o : Option Rows). version_of x.id (rows_or o)) look.0.1) ∙ z)

        shown_stood : (xs : List Found) → Each (λ x. version (now base coll s) coll x.id ≡ Some (stored x)) xs → Each (IsStood (s ∷ sights)) (shown_with s xs)
        shown_stood [] z = tt
        shown_stood (x ∷ xs) z = (((0, refl), z.0), shown_stood xs z.1)
