-- Whether a document is inserted next, by what the present round has found.
use Rattle.std.proofs.Common.{◌≡◌, ℕ, ◌<◌, ◌≤◌, List, [], ◌∷◌, length, Bool, true, false, ◌&&◌, Option, Some, None, refl, sym, ap, ◌∙◌, arith, ⊎_elim}
use Rattle.std.specs.Prelude.{is_none, nat_lt, if◌then◌else◌}
use Rattle.std.specs.Ordering.{is_gt, on}
use Rattle.std.specs.declared.cmp.Ordering.{Ordering}
use Rattle.std.proofs.lemmas.Bool.{le-ltb, lt-ltb}
use Rattle.json_tree.specs.Tree.{Tree}
use Rattle.shred_cols.specs.Rows.{first}
use Rattle.sqlite_keyed.specs.Lists.{insert_sorted, sort_by}
use Rattle.col_keeper.specs.Tables.{Name}
use Rattle.filter_tree.specs.Filters.{FilterTree}
use Rattle.view_sort.specs.Sort.{SortKeys, found_cmp}
use Rattle.store_core.specs.State.{State as Base}
use Rattle.cmd_tasks.specs.Trace.{Sight, Found, end_of, shown, rows_now, GoesOn, IsListed}
use Rattle.cmd_tasks.specs.Searches.{bound, is_whole, stored, in_order, first_of}
use Rattle.cmd_tasks.specs.Doing.{Doing, upsert_of}
use Rattle.cmd_tasks.specs.Outcomes.{ready}
use Rattle.cmd_tasks.specs.Served.{chosen, insertion, round}
use Rattle.cmd_tasks.proofs.Fresh.{full_ends}

-- ---- whether a search has found any

none_first : (sort : SortKeys) (looks : List Sight) → first_of sort looks [] ≡ None
none_first [] looks = refl
none_first (key ∷ keys) looks = elim (is_whole looks) as (λ b. ◌≡◌ {A = Option Found} (if b && true then None else None) None) [ true ↦ refl | false ↦ refl ]

not_some : (x : Found) → ◌≡◌ {A = Option Found} None (Some x) → ⊥
not_some x e = cc

-- where one is told, one was found
some_shown : (sort : SortKeys) (looks : List Sight) (xs : List Found) (x : Found) → first_of sort looks xs ≡ Some x → nat_lt (length xs) 1 ≡ false
some_shown sort looks [] x e = absurd (not_some x (sym (none_first sort looks) ∙ e))
some_shown sort looks (y ∷ ys) x e = le-ltb (length (y ∷ ys)) 1 (omega arith)

first_inserted : (cmp : Found → Found → Ordering) (new : Found) (xs : List Found) → first (insert_sorted cmp new xs) ≡ None → ⊥
first_inserted cmp new [] e = cc
first_inserted cmp new (x ∷ xs) e = elim (is_gt (cmp new x)) as (λ b. first (if b then x ∷ insert_sorted cmp new xs else new ∷ x ∷ xs) ≡ None → ⊥) [ true ↦ λ q. cc | false ↦ λ q. cc ] e

-- where there is no first one in order, none was found
none_in_order : (sort : SortKeys) (xs : List Found) → first (in_order sort xs) ≡ None → xs ≡ []
none_in_order sort [] e = refl
none_in_order [] (x ∷ xs) e = cc
none_in_order (key ∷ keys) (x ∷ xs) e = let cmp : Found → Found → Ordering = on stored (found_cmp (key ∷ keys)) in absurd (first_inserted cmp x (sort_by cmp xs) e)

one_at_least : (sort : SortKeys) → 1 ≤ bound sort 1
one_at_least [] = omega arith
one_at_least (key ∷ keys) = omega arith

and_none : (b c : Bool) (o : Option Tree) → c ≡ false → (if b && c then o else None) ≡ None
and_none true c o e = ap (λ (z : Bool). if z then o else None) e
and_none false c o e = refl

module _ (base : Base) (coll : Name) (k : ℕ) (f : FilterTree) where
  not_whole : (most : ℕ) (looks : List Sight) → GoesOn base coll f most looks → is_whole looks ≡ false
  not_whole most [] h = refl
  not_whole most (s ∷ earlier) h = full_ends base coll f (rows_now base coll s) s.item h.0

  whole : (most : ℕ) (looks : List Sight) → IsListed base coll f most looks → length (shown base coll f looks) < most → is_whole looks ≡ true
  whole most [] h few = absurd h
  whole most (s ∷ earlier) h few = ⊎_elim (λ (e : end_of s.item ≡ None). ap is_none e) (λ (l : most ≤ length (shown base coll f (s ∷ earlier))). absurd (omega arith)) h

  module _ (sort : SortKeys) (doing : Doing) (sights : List Sight) where
    -- while the round goes on, none is inserted
    pub unput_while_on : GoesOn base coll f (bound sort 1) (round sights) → insertion base coll k f sort doing sights ≡ None
    unput_while_on on = ap (λ (b : Bool). if b && nat_lt (length (shown base coll f (round sights))) 1 then ready (upsert_of f doing) else None) (not_whole (bound sort 1) (round sights) on)

    -- nor is one where the round has chosen one
    pub unput_where_chosen : (x : Found) → chosen base coll k f sort sights ≡ Some x → insertion base coll k f sort doing sights ≡ None
    unput_where_chosen x is = and_none (is_whole (round sights)) (nat_lt (length (shown base coll f (round sights))) 1) (ready (upsert_of f doing)) (some_shown sort (round sights) (shown base coll f (round sights)) x is)

    -- where the round is at its end and has found none, one is, if one is to be
    pub put_where_none : IsListed base coll f (bound sort 1) (round sights) → first (in_order sort (shown base coll f (round sights))) ≡ None → insertion base coll k f sort doing sights ≡ ready (upsert_of f doing)
    put_where_none listed none =
        let none_shown : length (shown base coll f (round sights)) ≡ 0 = ap length (none_in_order sort (shown base coll f (round sights)) none) in
        let ends : is_whole (round sights) ≡ true = whole (bound sort 1) (round sights) listed (let l = one_at_least sort in omega arith) in
        let empty : nat_lt (length (shown base coll f (round sights))) 1 ≡ true = lt-ltb (length (shown base coll f (round sights))) 1 (omega arith) in
        λ i. if ends i && empty i then ready (upsert_of f doing) else None
