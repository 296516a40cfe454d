-- What was found is sorted in one way, all at once or page by page.
use Rattle.std.proofs.Common.{◌≡◌, ◌≢◌, ℕ, Bool, true, false, List, [], ◌∷◌, ◌++◌, take, is_eq, Ordering, Less, Equal, Greater, Option, Some, None, sym, refl, ◌∙◌, MatchOption, unwrap_or}
use Rattle.std.specs.List.{AllByRecursion}
use Rattle.std.specs.Ordering.{ordering_then, on}
use Rattle.std.specs.Cmp.{IsTotalOrder, then_total, on_total, back_total, nat_cmp_total}
use Rattle.std.proofs.lemmas.List.Sorted.{IsPermutation-sym}
use Rattle.sqlite_keyed.proofs.SortLemmas.{HasNoTies, IsPermutation-sort_by, sorted_is-sort_by}
use Rattle.json_tree.specs.Tree.{Tree, null}
use Rattle.json_tree.specs.Doc.{IsDocument, id_in}
use Rattle.json_tree.specs.Id.{IsId, id_cmp}
use Rattle.shred_cols.specs.SortKey.{key_cmp}
use Rattle.shred_cols.specs.Row.{Version, id_of}
use Rattle.view_sort.specs.Sort.{directed, key_at, keys_cmp, found_cmp, IsSortOf, HasIds, sorted}
use Rattle.view_sort.specs.Rank.{key_total, id_total}
use Rattle.view_sort.proofs.PagesSorted.{sort_is_sorted, first_is_first}

directed_total : {X : Type 0} (up : Bool) (cmp : X → X → Ordering) → IsTotalOrder cmp → IsTotalOrder (directed up cmp)
directed_total true cmp total = total
directed_total false cmp total = back_total total

keys_total : (s : List (List ℕ × Bool)) → IsTotalOrder (keys_cmp s)
keys_total [] = on_total (λ d. 0) nat_cmp_total
keys_total (k ∷ s) = then_total (directed_total k.1 (on (key_at k.0) key_cmp) (on_total (key_at k.0) key_total)) (keys_total s)

found_total : (s : List (List ℕ × Bool)) → IsTotalOrder (found_cmp s)
found_total s = then_total (on_total (λ f. f.doc) (keys_total s)) (on_total (λ f. id_of f.doc) id_total)

abbrev Apart : Type 0
Apart = (x y : Tree) → IsId x → IsId y → id_cmp x y ≡ Equal → x ≡ y

is_id : (o : Option Tree) → MatchOption o ⊥ IsId → IsId (unwrap_or o null)
is_id None h = absurd h
is_id (Some t) h = h

not_equal : (o : Ordering) → (o ≡ Equal → ⊥) → is_eq o ≡ false
not_equal Less h = refl
not_equal Equal h = absurd (h refl)
not_equal Greater h = refl

then_not : (a b : Ordering) → is_eq b ≡ false → is_eq (ordering_then a b) ≡ false
then_not Less b e = refl
then_not Equal b e = e
then_not Greater b e = refl

apart_in : Apart → (s : List (List ℕ × Bool)) (x : Version) → IsDocument x.doc → (ys : List Version) → AllByRecursion (λ y. id_of x.doc ≢ id_of y.doc) ys → HasIds ys → AllByRecursion (λ y. is_eq (found_cmp s x y) ≡ false) ys
apart_in apart s x d [] a b = tt
apart_in apart s x d (y ∷ ys) a b =
    (then_not (keys_cmp s x.doc y.doc) (id_cmp (id_of x.doc) (id_of y.doc)) (not_equal (id_cmp (id_of x.doc) (id_of y.doc)) (λ e. a.0 (apart (id_of x.doc) (id_of y.doc) (is_id (id_in x.doc) d.id) (is_id (id_in y.doc) b.0.0.id) e))), apart_in apart s x d ys a.1 b.1)

no_ties : Apart → (s : List (List ℕ × Bool)) (xs : List Version) → HasIds xs → HasNoTies (found_cmp s) (found_total s) xs
no_ties apart s [] h = tt
no_ties apart s (x ∷ xs) h = (apart_in apart s x h.0.0 xs h.0.1 h.1, no_ties apart s xs h.1)

pub sorts_same : Apart → (s : List (List ℕ × Bool)) (xs ys zs : List Version) → HasIds xs → IsSortOf s xs ys → IsSortOf s xs zs → ys ≡ zs
sorts_same apart s xs ys zs ids one two =
    let none = no_ties apart s xs ids in
    sorted_is-sort_by (found_cmp s) (found_total s) xs ys none one.same one.ascending ∙ sym (sorted_is-sort_by (found_cmp s) (found_total s) xs zs none two.same two.ascending)

pub sorts_itself : (s : List (List ℕ × Bool)) (xs : List Version) → IsSortOf s xs (sorted s xs)
sorts_itself s xs =
    record { same = IsPermutation-sym (sorted s xs) xs (IsPermutation-sort_by (found_cmp s) (found_total s) xs); ascending = sort_is_sorted (found_cmp s) (found_total s) xs }

pub first_of_pages : Apart → (s : List (List ℕ × Bool)) (keep : ℕ) (xs ys : List Version) → HasIds (xs ++ ys) → take keep (sorted s (take keep (sorted s xs) ++ ys)) ≡ take keep (sorted s (xs ++ ys))
first_of_pages apart s keep xs ys ids = first_is_first (found_cmp s) (found_total s) keep xs ys (no_ties apart s (xs ++ ys) ids)
