-- The first of a list that would be sorted whole: those that aren't above one of its elements.
use Rattle.std.proofs.Common.{◌≡◌, ◌<◌, ◌≤◌, ℕ, zero, suc, Bool, true, false, cond, List, [], ◌∷◌, ◌++◌, length, map, take, get_or, refl, sym, ap, ◌∙◌, subst, arith, Ordering, Less, Equal, Greater, is_lt, is_gt, IsPermutation, IsSorted, add-one}
use Rattle.std.specs.List.{AllByRecursion}
use Rattle.std.specs.List.Sorted.{IsSplitAround}
use Rattle.std.specs.Cmp.{IsTotalOrder}
use Rattle.std.specs.Ordering.{ordering_reverse}
use Rattle.std.proofs.lemmas.Cmp.{tied_itself, upto}
use Rattle.std.proofs.Math.Seq.{take-append_seam}
use Rattle.std.proofs.lemmas.List.{take_all}
use Rattle.std.proofs.lemmas.List.Elements.{recursion_from_All, All-from_recursion}
use Rattle.std.proofs.lemmas.List.Sorted.{All-permutation, IsPermutation-sym, IsPermutation-trans, IsPermutation-append_left, IsPermutation-append_right, length_permutation}
use Rattle.sqlite_trees.specs.Tree.{IsAscending}
use Rattle.sqlite_keyed.specs.Lists.{insert_sorted, sort_by}
use Rattle.sqlite_keyed.proofs.ListLemmas.{all_weaker, ascending-append}
use Rattle.sqlite_keyed.proofs.SortLemmas.{IsPermutation-sort_by}
use Rattle.shred_cols.specs.Row.{Version}
use Rattle.shred_cols.specs.declared.sort.SortKey.{SortKey}
use Rattle.view_sort.specs.Rank.{ranked_cmp, ranked_total, IsLeast, IsSortedFound, IsLeastFound}

all_at : {X : Type 0} (P : X → Type 0) (xs : List X) → ((k : ℕ) (d : X) → k < length xs → P (get_or xs k d)) → AllByRecursion P xs
all_at P [] h = tt
all_at P (x ∷ xs) h = (h 0 x (omega arith), all_at P xs (λ k d within. h (suc k) d (omega (arith, within))))

below_back : (o : Ordering) → is_lt o ≡ false → is_gt (ordering_reverse o) ≡ false
below_back Less h = h
below_back Equal h = refl
below_back Greater h = refl

above_back : (o : Ordering) → is_gt o ≡ false → is_lt (ordering_reverse o) ≡ false
above_back Less h = refl
above_back Equal h = refl
above_back Greater h = h

turned_above : (o : Ordering) → is_gt o ≡ true → is_gt (ordering_reverse o) ≡ false
turned_above Less h = Prim.cc h
turned_above Equal h = refl
turned_above Greater h = refl

module _ {X : Type 0} (cmp : X → X → Ordering) (total : IsTotalOrder cmp) where
  abbrev AtMost : X → X → Type 0
  AtMost a b = is_gt (cmp a b) ≡ false

  at_most : (x y : X) → is_lt (cmp y x) ≡ false → AtMost x y
  at_most x y h = ap is_gt (total.antisymm x y) ∙ below_back _ h

  not_below : (x y : X) → AtMost x y → is_lt (cmp y x) ≡ false
  not_below x y h = ap is_lt (total.antisymm y x) ∙ above_back _ h

  -- ---- ascending, each at most all later ones, and sorted, each at most the next

  below_all : (x : X) (ys : List X) → IsSorted cmp (x ∷ ys) → IsAscending AtMost ys → AllByRecursion (AtMost x) ys
  below_all x [] sorted up = tt
  below_all x (y ∷ ys) sorted up =
      let first : AtMost x y = at_most x y (sorted 0 x (omega arith) (omega arith)) in
      (first, all_weaker _ (AtMost x) (λ z. upto total x y z first) ys up.0)

  ascending_from_sorted : (xs : List X) → IsSorted cmp xs → IsAscending AtMost xs
  ascending_from_sorted [] sorted = tt
  ascending_from_sorted (x ∷ xs) sorted =
      let tail : IsSorted cmp xs = λ k d p q. rw add-one (rw add-one at (sorted (suc k) d (omega arith) (omega (arith, q)))) in
      let up = ascending_from_sorted xs tail in
      (below_all x xs sorted up, up)

  sorted_from_ascending : (xs : List X) → IsAscending AtMost xs → IsSorted cmp xs
  sorted_from_ascending [] up k d low within = absurd (omega (arith, within))
  sorted_from_ascending (x ∷ []) up k d low within = absurd (omega (arith, within))
  sorted_from_ascending (x ∷ y ∷ ys) up zero d low within = not_below x y up.0.0
  sorted_from_ascending (x ∷ y ∷ ys) up (suc k) d low within = rw add-one (rw add-one at (sorted_from_ascending (y ∷ ys) up.1 k d (omega arith) (omega (arith, within))))

  -- ---- what is left is sorted by a function

  all-insert : (P : X → Type 0) (new : X) (xs : List X) → P new → AllByRecursion P xs → AllByRecursion P (insert_sorted cmp new xs)
  all-insert P new [] h all = (h, tt)
  all-insert P new (x ∷ xs) h all =
      elim (is_gt (cmp new x)) as (λ b. AllByRecursion P (cond b (x ∷ insert_sorted cmp new xs) (new ∷ x ∷ xs))) [ true ↦ (all.0, all-insert P new xs h all.1) | false ↦ (h, all) ]

  ascending-insert : (new : X) (xs : List X) → IsAscending AtMost xs → IsAscending AtMost (insert_sorted cmp new xs)
  ascending-insert new [] up = (tt, tt)
  ascending-insert new (x ∷ xs) up = go (is_gt (cmp new x)) refl (ascending-insert new xs up.1)
    where
      go : (b : Bool) → is_gt (cmp new x) ≡ b → IsAscending AtMost (insert_sorted cmp new xs) → IsAscending AtMost (cond b (x ∷ insert_sorted cmp new xs) (new ∷ x ∷ xs))
      go true e more = (all-insert (AtMost x) new xs (ap is_gt (total.antisymm x new) ∙ turned_above _ e) up.0, more)
      go false e more = ((e, all_weaker _ (AtMost new) (λ y. upto total new x y e) xs up.0), up)

  ascending-sort : (xs : List X) → IsAscending AtMost (sort_by cmp xs)
  ascending-sort [] = tt
  ascending-sort (x ∷ xs) = ascending-insert x (sort_by cmp xs) (ascending-sort xs)

  -- ---- the first ones and what is left

  pub least_selected : (keep : ℕ) (xs front back firsts : List X) (x : X) → IsPermutation xs (front ++ x ∷ back) → length front ≡ keep → IsSplitAround cmp front x back → IsPermutation front firsts
      → IsSorted cmp firsts → IsLeast cmp keep xs firsts
  least_selected keep xs front back firsts x same len split chosen up =
      let rest = x ∷ back in
      let below : AllByRecursion (λ y. AtMost y x) firsts =
      recursion_from_All _ firsts (All-permutation (λ y. AtMost y x) front firsts chosen (All-from_recursion _ front (all_at (λ y. AtMost y x) front (λ k d within. at_most (get_or front k d) x (split.0 k d within))))) in
      let above : AllByRecursion (AtMost x) (sort_by cmp rest) =
      recursion_from_All _ _ (All-permutation (AtMost x) rest (sort_by cmp rest) (IsPermutation-sym _ _ (IsPermutation-sort_by cmp total rest))
      (All-from_recursion _ rest (ap is_gt (tied_itself total x), all_at (AtMost x) back (λ k d within. at_most x (get_or back k d) (split.1 k d within))))) in
      let whole : IsAscending AtMost (firsts ++ sort_by cmp rest) =
      ascending-append AtMost firsts (sort_by cmp rest) (ascending_from_sorted firsts up) (ascending-sort rest)
      (all_weaker _ (λ y. AllByRecursion (AtMost y) (sort_by cmp rest)) (λ y h. all_weaker _ (AtMost y) (λ z. upto total y x z h) (sort_by cmp rest) above) firsts below) in
      let size : length firsts ≡ keep = length_permutation front firsts chosen ∙ len in
      record {
        sorted = firsts ++ sort_by cmp rest;
        same = IsPermutation-trans _ _ _ same (IsPermutation-trans _ _ _ (IsPermutation-append_left rest front firsts chosen) (IsPermutation-append_right firsts rest (sort_by cmp rest) (IsPermutation-sym _ _ (IsPermutation-sort_by cmp total rest))));
        ascending = sorted_from_ascending _ whole;
        first = subst (λ n. firsts ≡ take n (firsts ++ sort_by cmp rest)) size (sym (take-append_seam firsts (sort_by cmp rest)));
      }

  pub least_all : (keep : ℕ) (xs ys : List X) → length xs ≤ keep → IsPermutation xs ys → IsSorted cmp ys → IsLeast cmp keep xs ys
  least_all keep xs ys within same up = record { sorted = ys; same = same; ascending = up; first = sym (take_all keep ys (omega (arith, within, length_permutation xs ys same))) }

abbrev Ranks : Type 0
Ranks = List (List (SortKey × SortKey) × Version)

pub found_least : (keep : ℕ) (xs old front back : Ranks) (x : List (SortKey × SortKey) × Version) (ys : List Version) → old ≡ xs → IsPermutation old (front ++ x ∷ back) → length front ≡ keep → IsSplitAround ranked_cmp front x back
    → IsSortedFound front ys → IsLeastFound keep xs ys
found_least keep xs old front back x ys same moved len split made = record {
  ranks = made.sorted;
  least = least_selected ranked_cmp ranked_total keep xs front back made.sorted x (subst (λ l. IsPermutation l (front ++ x ∷ back)) same moved) len split made.same made.ascending;
  found = made.found;
}

pub found_all : (keep : ℕ) (xs qs : Ranks) (ys : List Version) → length xs ≤ keep → IsPermutation xs qs → IsSorted ranked_cmp qs → ys ≡ map (λ r. r.1) qs → IsLeastFound keep xs ys
found_all keep xs qs ys within same up made = record { ranks = qs; least = least_all ranked_cmp ranked_total keep xs qs within same up; found = made }
