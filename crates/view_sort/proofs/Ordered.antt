-- What was found, sorted by its ranks.
use Rattle.std.proofs.Common.{◌≡◌, ◌+◌, ℕ, Bool, true, false, List, [], ◌∷◌, map, get_or, is_lt, Ordering, Less, Equal, Greater, IsPermutation, IsSorted, sym, refl, subst, ◌∙◌, ap, ap₂, arith, Result, Ok, Err, IfOk}
use Rattle.std.specs.List.{AllByRecursion, All}
use Rattle.std.specs.Ordering.{ordering_then, on}
use Rattle.std.specs.Cmp.Lexicographic.{slice_cmp}
use Rattle.std.proofs.lemmas.List.{take-map, get_or-map, length-map}
use Rattle.std.proofs.lemmas.List.Elements.{All-from_recursion, recursion_from_All}
use Rattle.std.proofs.lemmas.List.Sorted.{IsPermutation-map, All-permutation}
use Rattle.json_tree.specs.Tree.{Tree}
use Rattle.json_tree.specs.Id.{id_cmp}
use Rattle.shred_cols.specs.SortKey.{key_cmp}
use Rattle.shred_cols.specs.declared.sort.SortKey.{SortKey}
use Rattle.shred_cols.specs.Row.{Version, id_of}
use Rattle.view_sort.specs.Sort.{directed, key_at, keys_cmp, found_cmp, IsFirstOf}
use Rattle.view_sort.specs.Rank.{sided_key, sided_cmp, all_keys, rank_of, ranked_cmp, IsLeast}

then_equal : (o : Ordering) → ordering_then o Equal ≡ o
then_equal Less = refl
then_equal Equal = refl
then_equal Greater = refl

sided_agrees : (up : Bool) (path : List ℕ) (d e : Tree) → sided_cmp (sided_key up (key_at path d)) (sided_key up (key_at path e)) ≡ directed up (on (key_at path) key_cmp) d e
sided_agrees true path d e = then_equal _
sided_agrees false path d e = refl

keys_agree : (s : List (List ℕ × Bool)) (d e : Tree) → slice_cmp sided_cmp (all_keys s d) (all_keys s e) ≡ keys_cmp s d e
keys_agree [] d e = refl
keys_agree (k ∷ s) d e = ap₂ ordering_then (sided_agrees k.1 k.0 d e) (keys_agree s d e)

rank_agrees : (s : List (List ℕ × Bool)) (f g : Version) → ranked_cmp (rank_of s f) (rank_of s g) ≡ found_cmp s f g
rank_agrees s f g = ap (λ o. ordering_then o (id_cmp (id_of f.doc) (id_of g.doc))) (keys_agree s f.doc g.doc)

map_back : (s : List (List ℕ × Bool)) (xs : List Version) → map (λ r. r.1) (map (rank_of s) xs) ≡ xs
map_back s [] = refl
map_back s (x ∷ xs) = ap (λ l. x ∷ l) (map_back s xs)

abbrev IsRank : List (List ℕ × Bool) → List (SortKey × SortKey) × Version → Type 0
IsRank s r = r ≡ rank_of s r.1

ranks : (s : List (List ℕ × Bool)) (xs : List Version) → AllByRecursion (IsRank s) (map (rank_of s) xs)
ranks s [] = tt
ranks s (x ∷ xs) = (refl, ranks s xs)

ranked_again : (s : List (List ℕ × Bool)) (rs : List (List (SortKey × SortKey) × Version)) → AllByRecursion (IsRank s) rs → rs ≡ map (rank_of s) (map (λ r. r.1) rs)
ranked_again s [] h = refl
ranked_again s (r ∷ rs) h = ap₂ (λ a b. a ∷ b) h.0 (ranked_again s rs h.1)

unranked : (s : List (List ℕ × Bool)) (ys : List Version) → IsSorted ranked_cmp (map (rank_of s) ys) → IsSorted (found_cmp s) ys
unranked s ys up k d low within =
    let n = length-map ys (rank_of s) in
    let at : is_lt (ranked_cmp (get_or (map (rank_of s) ys) (k + 1) (rank_of s d)) (get_or (map (rank_of s) ys) k (rank_of s d))) ≡ false = up k (rank_of s d) low (omega arith) in
    ap is_lt (sym (rank_agrees s (get_or ys (k + 1) d) (get_or ys k d))) ∙ ap₂ (λ a b. is_lt (ranked_cmp a b)) (sym (get_or-map (rank_of s) ys (k + 1) d (rank_of s d) within)) (sym (get_or-map (rank_of s) ys k d (rank_of s d) (omega arith))) ∙ at

pub order_is : (s : List (List ℕ × Bool)) (keep : ℕ) (xs ys : List Version) (rs ks : List (List (SortKey × SortKey) × Version)) → rs ≡ map (rank_of s) xs → IsLeast ranked_cmp keep rs ks
    → ys ≡ map (λ r. r.1) ks → IsFirstOf s keep xs ys
order_is s keep xs ys rs ks made least first =
    let qs = least.sorted in
    let all : All (IsRank s) qs = All-permutation (IsRank s) rs qs least.same (subst (All (IsRank s)) (sym made) (All-from_recursion (IsRank s) _ (ranks s xs))) in
    let again = ranked_again s qs (recursion_from_All (IsRank s) qs all) in
    record {
      sorted = map (λ r. r.1) qs;
      sorts = record {
        same = subst (λ l. IsPermutation l (map (λ r. r.1) qs)) (ap (map (λ r. r.1)) made ∙ map_back s xs) (IsPermutation-map (λ r. r.1) rs qs least.same);
        ascending = unranked s (map (λ r. r.1) qs) (subst (IsSorted ranked_cmp) again least.ascending);
      };
      first = first ∙ ap (map (λ r. r.1)) least.first ∙ sym (take-map (λ r. r.1) keep qs);
    }

pub if_ok : {X E : Type 0} {P Q : X → Type 0} (r : Result X E) → IfOk r (λ x. P x) → ((x : X) → P x → Q x) → IfOk r (λ x. Q x)
if_ok (Ok x) h f = f x h
if_ok (Err e) h f = tt
