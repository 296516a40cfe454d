-- The first of what is sorted, where elements are inserted one after the other.
use Rattle.std.proofs.Common.{◌≡◌, ◌≤◌, ℕ, zero, suc, Bool, true, false, cond, List, [], ◌∷◌, ◌++◌, take, length, refl, sym, ap, ◌∙◌, arith, Ordering, Less, Equal, Greater, is_lt, is_gt, is_eq, IsPermutation, IsSorted}
use Rattle.std.specs.List.{AllByRecursion}
use Rattle.std.specs.Cmp.{IsTotalOrder}
use Rattle.std.specs.Ordering.{ordering_reverse}
use Rattle.std.proofs.lemmas.Cmp.{upto}
use Rattle.std.proofs.lemmas.List.{take-take}
use Rattle.std.proofs.lemmas.List.Sorted.{IsPermutation-sym, IsPermutation-trans, IsPermutation-append_comm}
use Rattle.sqlite_trees.specs.Tree.{IsAscending}
use Rattle.sqlite_keyed.specs.Lists.{insert_sorted, sort_by}
use Rattle.sqlite_keyed.proofs.ListLemmas.{all_weaker}
use Rattle.sqlite_keyed.proofs.SortLemmas.{HasNoTies, IsPermutation-sort_by, sorted_is-sort_by}

not_below : (o : Ordering) → is_gt o ≡ false → is_lt (ordering_reverse o) ≡ false
not_below Less h = refl
not_below Equal h = refl
not_below Greater h = h

back : (o : Ordering) → is_gt o ≡ true → is_gt (ordering_reverse o) ≡ false
back Less h = sym h
back Equal h = refl
back Greater h = refl

back_apart : (o : Ordering) → is_eq o ≡ false → is_eq (ordering_reverse o) ≡ false
back_apart Less h = refl
back_apart Equal h = h
back_apart Greater h = refl

all_take : {X : Type 0} (P : X → Type 0) (k : ℕ) (xs : List X) → AllByRecursion P xs → AllByRecursion P (take k xs)
all_take P zero xs all = tt
all_take P (suc k) [] all = tt
all_take P (suc k) (x ∷ xs) all = (all.0, all_take P k xs all.1)

cut : {X : Type 0} (z : X) (k : ℕ) (zs : List X) → take k (z ∷ take k zs) ≡ take k (z ∷ zs)
cut z zero zs = refl
cut z (suc k) zs = ap (λ l. z ∷ l) (take-take k (suc k) zs (omega arith))

module _ {X : Type 0} (cmp : X → X → Ordering) (total : IsTotalOrder cmp) where
  abbrev AtMost : X → X → Type 0
  AtMost a b = is_gt (cmp a b) ≡ false

  -- ---- what is sorted ascends

  all_insert : (P : X → Type 0) (new : X) (xs ys : List X) → P new → AllByRecursion P (xs ++ ys) → AllByRecursion P (insert_sorted cmp new xs ++ ys)
  all_insert P new [] ys h all = (h, all)
  all_insert P new (x ∷ xs) ys h all =
      elim (is_gt (cmp new x)) as (λ b. AllByRecursion P (cond b (x ∷ insert_sorted cmp new xs) (new ∷ x ∷ xs) ++ ys)) [ true ↦ (all.0, all_insert P new xs ys h all.1) | false ↦ (h, all) ]

  all_inserted : (P : X → Type 0) (new : X) (xs : List X) → P new → AllByRecursion P xs → AllByRecursion P (insert_sorted cmp new xs)
  all_inserted P new [] h all = (h, all)
  all_inserted P new (x ∷ xs) h all =
      elim (is_gt (cmp new x)) as (λ b. AllByRecursion P (cond b (x ∷ insert_sorted cmp new xs) (new ∷ x ∷ xs))) [ true ↦ (all.0, all_inserted P new xs h all.1) | false ↦ (h, all) ]

  insert_ascends : (new : X) (xs : List X) → IsAscending AtMost xs → IsAscending AtMost (insert_sorted cmp new xs)
  insert_ascends new [] up = (tt, tt)
  insert_ascends new (x ∷ xs) up = go (is_gt (cmp new x)) refl (insert_ascends new xs up.1)
    where
      go : (b : Bool) → is_gt (cmp new x) ≡ b → IsAscending AtMost (insert_sorted cmp new xs) → IsAscending AtMost (cond b (x ∷ insert_sorted cmp new xs) (new ∷ x ∷ xs))
      go true e more = (all_inserted (AtMost x) new xs (ap is_gt (total.antisymm x new) ∙ back (cmp new x) e) up.0, more)
      go false e more = ((e, all_weaker _ (AtMost new) (λ z. upto total new x z e) xs up.0), up)

  sort_ascends : (xs : List X) → IsAscending AtMost (sort_by cmp xs)
  sort_ascends [] = tt
  sort_ascends (x ∷ xs) = insert_ascends x _ (sort_ascends xs)

  sorted : (xs : List X) → IsAscending AtMost xs → IsSorted cmp xs
  sorted [] up k d low within = absurd (omega (arith, within))
  sorted (x ∷ []) up k d low within = absurd (omega (arith, within))
  sorted (x ∷ y ∷ ys) up zero d low within = ap is_lt (total.antisymm y x) ∙ not_below (cmp x y) up.0.0
  sorted (x ∷ y ∷ ys) up (suc k) d low within =
      let later = sorted (y ∷ ys) up.1 k d (omega arith) (omega (arith, within)) in
      rw (Rattle.std.proofs.Common.add-one) (rw Rattle.std.proofs.Common.add-one at later)

  pub sort_is_sorted : (xs : List X) → IsSorted cmp (sort_by cmp xs)
  sort_is_sorted xs = sorted _ (sort_ascends xs)

  -- ---- what ascends is sorted already

  take_ascends : (k : ℕ) (xs : List X) → IsAscending AtMost xs → IsAscending AtMost (take k xs)
  take_ascends zero xs up = tt
  take_ascends (suc k) [] up = tt
  take_ascends (suc k) (x ∷ xs) up = (all_take (AtMost x) k xs up.0, take_ascends k xs up.1)

  again : (xs : List X) → IsAscending AtMost xs → sort_by cmp xs ≡ xs
  again [] up = refl
  again (x ∷ []) up = refl
  again (x ∷ y ∷ ys) up = ap (insert_sorted cmp x) (again (y ∷ ys) up.1) ∙ ap (λ b. cond b (y ∷ insert_sorted cmp x ys) (x ∷ y ∷ ys)) up.0.0

  -- ---- nothing ties

  insert_apart : (new : X) (xs ys : List X) → AllByRecursion (λ y. is_eq (cmp new y) ≡ false) (xs ++ ys) → HasNoTies cmp total (xs ++ ys) → HasNoTies cmp total (insert_sorted cmp new xs ++ ys)
  insert_apart new [] ys far apart = (far, apart)
  insert_apart new (x ∷ xs) ys far apart =
      elim (is_gt (cmp new x)) as (λ b. HasNoTies cmp total (cond b (x ∷ insert_sorted cmp new xs) (new ∷ x ∷ xs) ++ ys)) [
        | true ↦ (all_insert _ new xs ys (ap is_eq (total.antisymm x new) ∙ back_apart (cmp new x) far.0) apart.0, insert_apart new xs ys far.1 apart.1)
        | false ↦ (far, apart)
      ]

  all_sort : (P : X → Type 0) (xs ys : List X) → AllByRecursion P (xs ++ ys) → AllByRecursion P (sort_by cmp xs ++ ys)
  all_sort P [] ys all = all
  all_sort P (x ∷ xs) ys all = all_insert P x (sort_by cmp xs) ys all.0 (all_sort P xs ys all.1)

  sort_apart : (xs ys : List X) → HasNoTies cmp total (xs ++ ys) → HasNoTies cmp total (sort_by cmp xs ++ ys)
  sort_apart [] ys apart = apart
  sort_apart (x ∷ xs) ys apart = insert_apart x (sort_by cmp xs) ys (all_sort _ xs ys apart.0) (sort_apart xs ys apart.1)

  all_front : (P : X → Type 0) (k : ℕ) (xs ys : List X) → AllByRecursion P (xs ++ ys) → AllByRecursion P (take k xs ++ ys)
  all_front P zero [] ys all = all
  all_front P (suc k) [] ys all = all
  all_front P zero (x ∷ xs) ys all = all_front P zero xs ys all.1
  all_front P (suc k) (x ∷ xs) ys all = (all.0, all_front P k xs ys all.1)

  front_apart : (k : ℕ) (xs ys : List X) → HasNoTies cmp total (xs ++ ys) → HasNoTies cmp total (take k xs ++ ys)
  front_apart zero [] ys apart = apart
  front_apart (suc k) [] ys apart = apart
  front_apart zero (x ∷ xs) ys apart = front_apart zero xs ys apart.1
  front_apart (suc k) (x ∷ xs) ys apart = (all_front _ k xs ys apart.0, front_apart k xs ys apart.1)

  -- ---- one after the other

  abbrev inserts : List X → List X → List X
  inserts [] zs = zs
  inserts (y ∷ ys) zs = insert_sorted cmp y (inserts ys zs)

  sort_append : (ys xs : List X) → sort_by cmp (ys ++ xs) ≡ inserts ys (sort_by cmp xs)
  sort_append [] xs = refl
  sort_append (y ∷ ys) xs = ap (insert_sorted cmp y) (sort_append ys xs)

  one_after_other : (xs ys : List X) → HasNoTies cmp total (xs ++ ys) → sort_by cmp (xs ++ ys) ≡ inserts ys (sort_by cmp xs)
  one_after_other xs ys apart =
      let same = IsPermutation-trans _ _ _ (IsPermutation-append_comm xs ys) (IsPermutation-sym _ _ (IsPermutation-sort_by cmp total (ys ++ xs))) in
      sym (sorted_is-sort_by cmp total (xs ++ ys) (sort_by cmp (ys ++ xs)) apart same (sort_is_sorted (ys ++ xs))) ∙ sort_append ys xs

  insert_first : (y : X) (k : ℕ) (zs : List X) → take k (insert_sorted cmp y (take k zs)) ≡ take k (insert_sorted cmp y zs)
  insert_first y zero zs = refl
  insert_first y (suc k) [] = refl
  insert_first y (suc k) (z ∷ zs) =
      elim (is_gt (cmp y z)) as (λ b. take (suc k) (cond b (z ∷ insert_sorted cmp y (take k zs)) (y ∷ z ∷ take k zs)) ≡ take (suc k) (cond b (z ∷ insert_sorted cmp y zs) (y ∷ z ∷ zs)))
      [ true ↦ ap (λ l. z ∷ l) (insert_first y k zs) | false ↦ ap (λ l. y ∷ l) (cut z k zs) ]

  inserts_first : (k : ℕ) (ys zs : List X) → take k (inserts ys (take k zs)) ≡ take k (inserts ys zs)
  inserts_first k [] zs = take-take k k zs (omega arith)
  inserts_first k (y ∷ ys) zs = sym (insert_first y k _) ∙ ap (λ l. take k (insert_sorted cmp y l)) (inserts_first k ys zs) ∙ insert_first y k _

  pub first_is_first : (k : ℕ) (xs ys : List X) → HasNoTies cmp total (xs ++ ys) → take k (sort_by cmp (take k (sort_by cmp xs) ++ ys)) ≡ take k (sort_by cmp (xs ++ ys))
  first_is_first k xs ys apart =
      let zs = sort_by cmp xs in
      ap (take k) (one_after_other (take k zs) ys (front_apart k zs ys (sort_apart xs ys apart))) ∙ ap (λ l. take k (inserts ys l)) (again (take k zs) (take_ascends k zs (sort_ascends xs))) ∙ inserts_first k ys zs
      ∙ sym (ap (take k) (one_after_other xs ys apart))
