-- Searches that have made no look, and what searches found: the first of it, by cases on the sort.
use Rattle.std.proofs.Common.{◌≡◌, ℕ, zero, suc, ◌<◌, List, [], ◌∷◌, map, take, length, true, false, not, ◌&&◌, Option, Some, None, refl, sym, ap, ◌∙◌, subst, arith, ⊎_elim}
use Rattle.std.specs.Prelude.{IfSome, IsSome, MatchOption, is_none, if◌then◌else◌}
use Rattle.std.specs.Option.{option_map}
use Rattle.std.specs.List.{AllByRecursion as Each}
use Rattle.std.specs.Ordering.{is_gt}
use Rattle.std.specs.declared.cmp.Ordering.{Ordering}
use Rattle.std.proofs.lemmas.Bool.{ltb-false}
use Rattle.json_tree.specs.Tree.{Tree}
use Rattle.shred_cols.specs.Row.{Version, id_of}
use Rattle.shred_cols.specs.Rows.{Rows, first}
use Rattle.sqlite_keyed.specs.Lists.{insert_sorted, sort_by}
use Rattle.col_keeper.specs.Tables.{Name}
use Rattle.filter_tree.specs.Filters.{FilterTree}
use Rattle.view_sort.specs.Sort.{SortKeys}
use Rattle.store_core.specs.State.{State as Base}
use Rattle.cmd_tasks.specs.Trace.{Sight, Found, up_to, end_of, shown, FullPage, GoesOn, IsListed, rows_now}
use Rattle.cmd_tasks.specs.Searches.{bound, is_too_many, in_order, first_of}
use Rattle.cmd_tasks.specs.Pages.{found_row}
use Rattle.cmd_tasks.specs.Searching.{IsFresh, IsSearching}
use Rattle.cmd_tasks.specs.declared.work.Search.{Search}
use Rattle.cmd_tasks.specs.declared.work.Progress.{Progress}
use Rattle.cmd_tasks.specs.declared.trace.Item.{Item}
use Rattle.cmd_tasks.specs.declared.trace.Item.TheVariants.{Looked, Wrote, Lost, Faulted}

-- ---- options

pub match_some : {A : Type 0} (o : Option A) (a : A) (P : Type 0) (Q : A → Type 0) → o ≡ Some a → Q a → MatchOption o P Q
match_some o a P Q is q = subst (λ z. MatchOption z P Q) (sym is) q

pub match_none : {A : Type 0} (o : Option A) (P : Type 0) (Q : A → Type 0) → o ≡ None → P → MatchOption o P Q
match_none o P Q is p = subst (λ z. MatchOption z P Q) (sym is) p

pub some_is : {A : Type 0} (o : Option A) (a : A) → o ≡ Some a → IsSome o
some_is o a e = subst (λ z. IsSome z) (sym e) refl

-- ---- a search that has made no look

nothing_taken : (keep : ℕ) → ◌≡◌ {A = List Found} (take keep []) []
nothing_taken zero = refl
nothing_taken (suc n) = refl

none_in_order : (sort : SortKeys) → in_order sort [] ≡ []
none_in_order [] = refl
none_in_order (key ∷ keys) = refl

none_below : (o : Option Tree) (P : Tree → Version → Type 0) → IfSome o (λ u. Each (P u) [])
none_below None P = tt
none_below (Some u) P = tt

pub fresh_searching : (base : Base) (coll : Name) (from : Option Tree) (search : Search) (p : Progress) → IsFresh from p → IsSearching base coll from search p []
fresh_searching base coll from search p h = record {
  last = h.last;
  count = h.shown;
  kept = ap (map found_row) h.kept ∙ sym (ap (take search.keep) (none_in_order search.sort) ∙ nothing_taken search.keep);
  versions = [];
  are = refl;
  apart = tt;
  below = none_below p.last (λ u v. up_to (Some u) (id_of v.doc) ≡ true);
  seen = tt;
}

pub none_first : (sort : SortKeys) → first_of sort [] [] ≡ None
none_first [] = refl
none_first (key ∷ keys) = refl

-- ---- the first of what was found

-- what holds of all that was found holds of the first in the order of a sort
insert_each : {X : Type 0} (P : X → Type 0) (cmp : X → X → Ordering) (new : X) (xs : List X) → P new → Each P xs → Each P (insert_sorted cmp new xs)
insert_each P cmp new [] p h = (p, tt)
insert_each P cmp new (x ∷ xs) p h = elim (is_gt (cmp new x)) as (λ b. Each P (if b then x ∷ insert_sorted cmp new xs else new ∷ x ∷ xs)) [
  | true ↦ (h.0, insert_each P cmp new xs p h.1)
  | false ↦ (p, h)
]

sort_each : {X : Type 0} (P : X → Type 0) (cmp : X → X → Ordering) (xs : List X) → Each P xs → Each P (sort_by cmp xs)
sort_each P cmp [] h = tt
sort_each P cmp (x ∷ xs) h = insert_each P cmp x (sort_by cmp xs) h.0 (sort_each P cmp xs h.1)

order_each : (P : Found → Type 0) (sort : SortKeys) (xs : List Found) → Each P xs → Each P (in_order sort xs)
order_each P [] xs h = h
order_each P (key ∷ keys) xs h = sort_each P _ xs h

each_first : (P : Found → Type 0) (xs : List Found) (x : Found) → first xs ≡ Some x → Each P xs → P x
each_first P [] x e h = cc
each_first P (y ∷ ys) x e h = subst P (heads y x e) h.0
  where
    heads : (a b : Found) → ◌≡◌ {A = Option Found} (Some a) (Some b) → a ≡ b
    heads a b q = cc

each_found : (P : Found → Type 0) (vs : List Version) → Each (λ v. P (found_row v)) vs → Each P (map found_row vs)
each_found P [] h = tt
each_found P (v ∷ vs) h = (h.0, each_found P vs h.1)

pub first_each : (P : Found → Type 0) (sort : SortKeys) (vs : List Version) (xs : List Found) (x : Found) → xs ≡ map found_row vs → first (in_order sort xs) ≡ Some x → Each (λ v. P (found_row v)) vs → P x
first_each P sort vs xs x are is h = each_first P (in_order sort xs) x is (order_each P sort xs (subst (Each P) (sym are) (each_found P vs h)))

-- the first row that was kept is the first that was found
pub first_kept : (rows : List Version) (xs : List Found) → map found_row rows ≡ take 1 xs → first xs ≡ option_map found_row (first rows)
first_kept [] [] e = refl
first_kept [] (x ∷ xs) e = cc
first_kept (v ∷ rows) [] e = cc
first_kept (v ∷ rows) (x ∷ xs) e = sym (ap first e)

module _ (base : Base) (coll : Name) (f : FilterTree) where
  none_shown : (looks : List Sight) → GoesOn base coll f 1 looks → shown base coll f looks ≡ []
  none_shown [] h = refl
  none_shown (s ∷ earlier) h = empty _ h.1
    where
      empty : {A : Type 0} (xs : List A) → length xs < 1 → xs ≡ []
      empty [] l = refl
      empty (x ∷ xs) l = absurd (omega arith)

  pub full_ends : (r : Rows) (i : Item) → FullPage base coll f r i → is_none (end_of i) ≡ false
  full_ends r (Looked at after up page) h = ap is_none h.0.1
  full_ends r (Wrote at) h = absurd h
  full_ends r (Lost at read found) h = absurd h
  full_ends r (Faulted at before count) h = absurd h

  -- while a search for the first one goes on, none is told
  pub none_yet : (sort : SortKeys) (looks : List Sight) → GoesOn base coll f (bound sort 1) looks → first_of sort looks (shown base coll f looks) ≡ None
  none_yet [] looks h = ap first (none_shown looks h)
  none_yet (key ∷ keys) [] h = refl
  none_yet (key ∷ keys) (s ∷ earlier) h =
      let xs = shown base coll f (s ∷ earlier) in
      ap (λ b. if b && not (is_too_many (key ∷ keys) xs) then first (in_order (key ∷ keys) xs) else None) (full_ends (rows_now base coll s) s.item h.0)

  -- at its end it is the first in the order of the sort
  pub first_told : (sort : SortKeys) (looks : List Sight) → IsListed base coll f (bound sort 1) looks → is_too_many sort (shown base coll f looks) ≡ false
      → first_of sort looks (shown base coll f looks) ≡ first (in_order sort (shown base coll f looks))
  first_told [] looks h few = refl
  first_told (key ∷ keys) [] h few = absurd h
  first_told (key ∷ keys) (s ∷ earlier) h few =
      let xs = shown base coll f (s ∷ earlier) in
      let ends : is_none (end_of s.item) ≡ true = ⊎_elim (λ e. ap is_none e) (λ l. absurd (let m = ltb-false 10000 (length xs) few in omega arith)) h in
      λ i. if ends i && not (few i) then first (in_order (key ∷ keys) xs) else None
