-- The measures of trees: a part is smaller than the list that holds it, and one step through such a list.
use Rattle.std.proofs.Common.{◌≡◌, ◌<◌, ◌≤◌, ◌+◌, ℕ, zero, suc, List, [], ◌∷◌, length, drop, map, get_or, Some, None, option_map, sym, ◌∙◌, ap, ap₂, arith, slice_get, add-one}
use Rattle.std.proofs.Math.Seq.{drop-cons}
use Rattle.std.proofs.lemmas.Option.{slice_get_within, get_or_from_slice_get, slice_get-map, slice_get-get_or}
use Rattle.json_tree.specs.Tree.{Tree, tree_size, trees_size, pairs_size}
use Rattle.json_tree.specs.View.{tree, pair_of}
use Rattle.json_tree.specs.declared.value.Value.{Value}
use Rattle.json_tree.specs.Falls.{elements_size-elements_of, members_size-members_of}

pub drop-at : {X : Type 0} (xs : List X) (i : ℕ) (x : X) → slice_get xs i ≡ Some x → drop i xs ≡ x ∷ drop (i + 1) xs
drop-at xs i x e = drop-cons xs i x (slice_get_within xs i x e) ∙ ap₂ (λ a b. a ∷ drop b xs) (get_or_from_slice_get xs i x x e) (sym (add-one i))

pub at_end : {X : Type 0} (xs : List X) (i : ℕ) → slice_get xs i ≡ None → length xs ≤ i
at_end [] i e = omega arith
at_end (x ∷ xs) zero e = Prim.cc e
at_end (x ∷ xs) (suc i) e = omega (arith, at_end xs i e)

some_size : (ts : List Tree) → 0 < trees_size ts
some_size [] = omega arith
some_size (t ∷ ts) = omega (arith, some_size ts)

some_pairs : (ps : List (List ℕ × Tree)) → 0 < pairs_size ps
some_pairs [] = omega arith
some_pairs (p ∷ ps) = omega (arith, some_pairs ps)

pub tree_falls : (ts : List Tree) (i : ℕ) (t : Tree) → slice_get ts i ≡ Some t → tree_size t < trees_size ts
tree_falls [] i t e = Prim.cc e
tree_falls (u ∷ ts) zero t e = let q : u ≡ t = Prim.cc e in omega (arith, ap tree_size q, some_size ts)
tree_falls (u ∷ ts) (suc i) t e = omega (arith, tree_falls ts i t e)

pub pair_falls : (ps : List (List ℕ × Tree)) (i : ℕ) (p : List ℕ × Tree) → slice_get ps i ≡ Some p → tree_size p.1 < pairs_size ps
pair_falls [] i p e = Prim.cc e
pair_falls (q ∷ ps) zero p e = let r : q ≡ p = Prim.cc e in omega (arith, ap (λ (x : List ℕ × Tree). tree_size x.1) r, some_pairs ps)
pair_falls (q ∷ ps) (suc i) p e = omega (arith, pair_falls ps i p e)

-- ---- the same of values and pairs in a slice

-- what stands at a place of a slice, as contracts see it
pub seen_at : {X Y : Type 0} (f : X → Y) (xs : List X) (ys : List Y) (i : ℕ) (x : X) → map f xs ≡ ys → i < length xs → x ≡ get_or xs i x → Some (f x) ≡ slice_get ys i
seen_at f xs ys i x view within is =
    sym (ap (λ l. slice_get l i) (sym view) ∙ slice_get-map f xs i ∙ ap (option_map f) (slice_get-get_or xs i x within) ∙ ap (λ v. Some (f v)) (sym is))

pub value_in_falls : (xs : List Value) (i : ℕ) (x : Value) → i < length xs → x ≡ get_or xs i x → tree_size (tree x) < trees_size (map tree xs)
value_in_falls [] i x h e = absurd (omega arith)
value_in_falls (y ∷ xs) zero x h e = omega (arith, ap (λ v. tree_size (tree v)) e, some_size (map tree xs))
value_in_falls (y ∷ xs) (suc i) x h e = let inner : i < length xs = omega arith in omega (arith, value_in_falls xs i x inner e)

pub pair_in_falls : (xs : List (List ℕ × Value)) (i : ℕ) (x : List ℕ × Value) → i < length xs → x ≡ get_or xs i x → tree_size (tree x.1) < pairs_size (map pair_of xs)
pair_in_falls [] i x h e = absurd (omega arith)
pair_in_falls (y ∷ xs) zero x h e = omega (arith, ap (λ (p : List ℕ × Value). tree_size (tree p.1)) e, some_pairs (map pair_of xs))
pair_in_falls (y ∷ xs) (suc i) x h e = let inner : i < length xs = omega arith in omega (arith, pair_in_falls xs i x inner e)

pub ruleset sizes = (elements_size-elements_of, members_size-members_of)

pub ruleset steps = (drop-at, at_end)
