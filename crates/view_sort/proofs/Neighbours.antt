-- In the order of parts, paths of which none overlaps the next one don't overlap at all.
use Rattle.std.proofs.Common.{◌≡◌, ◌<◌, ◌⊎◌, inl, inr, ℕ, suc, Bool, true, false, ◌||◌, ◌&&◌, List, [], ◌∷◌, ◌++◌, length, get_or, add-one, take, Option, Some, None, refl, sym, ◌∙◌, ap, ap₂, arith}
use Rattle.std.specs.List.{list_any, IsDistinct, AllByRecursion, AllAdjacentBelow}
use Rattle.std.specs.List.Sorted.{IsSorted, IsPermutation}
use Rattle.std.specs.Option.{option_map}
use Rattle.std.specs.Str.{bytes_eq}
use Rattle.std.specs.declared.cmp.Ordering.{Ordering}
use Rattle.std.specs.declared.cmp.Ordering.TheVariants.{Less, Equal, Greater}
use Rattle.std.specs.Ordering.{nat_cmp, is_lt, is_eq, ordering_then, ordering_reverse}
use Rattle.std.specs.Cmp.{IsStrictWeakOrder}
use Rattle.std.specs.Cmp.Lexicographic.{slice_cmp}
use Rattle.std.proofs.lemmas.Cmp.{lists_total, nat_cmp_total, tied_itself}
use Rattle.std.proofs.lemmas.List.MinMax.{ranks_by}
use Rattle.std.proofs.lemmas.List.{append-nil}
use Rattle.std.proofs.lemmas.Bool.{and_parts}
use Rattle.std.proofs.lemmas.Slice.Eq.{bytes_eq-Decides}
use Rattle.std.proofs.lemmas.Map.Text.{is_eq-slice_cmp}
use Rattle.std.proofs.lemmas.Map.Keys.{IsDistinct-IsPermutation}
use Rattle.std.proofs.lemmas.List.Sorted.{IsPermutation-sym}
use denote.Ref.{Bor}
use Rattle.doc_paths.specs.Text.{parts, base_parts}
use Rattle.doc_paths.proofs.Parts.{some_parts}
use Rattle.view_sort.specs.ByParts.{parts_cmp, path_cmp, path_cmp-total}
use Rattle.view_sort.specs.Projection.{leads as is_front, overlap}

-- ---- no further part comes first

abbrev pub seen : Option (Bor (List ℕ)) → Option (Bor (List ℕ)) → Ordering
seen m o = parts_cmp (base_parts (option_map (λ t. t.now) m)) (base_parts (option_map (λ t. t.now) o))

pub nothing_first : (m o : Option (Bor (List ℕ))) (t : Bor (List ℕ)) → m ≡ None → o ≡ Some t → Less ≡ seen m o
nothing_first m o t p q = sym (ap₂ seen p q ∙ ap (parts_cmp []) (some_parts t.now).are)

pub nothing_last : (m o : Option (Bor (List ℕ))) (t : Bor (List ℕ)) → m ≡ Some t → o ≡ None → Greater ≡ seen m o
nothing_last m o t p q = sym (ap₂ seen p q ∙ ap (λ l. parts_cmp l []) (some_parts t.now).are)

-- ---- what lies between parts and further parts begins with them

abbrev part_cmp : List ℕ → List ℕ → Ordering
part_cmp = slice_cmp nat_cmp

same_part : (x z : List ℕ) → part_cmp z x ≡ Equal → bytes_eq x z ≡ true
same_part x z e = sym (is_eq-slice_cmp x z) ∙ ap is_eq ((lists_total nat_cmp_total).antisymm x z ∙ ap ordering_reverse e)

between_step : (x z : List ℕ) (xs zs rest : List (List ℕ)) (o r : Ordering) → part_cmp z x ≡ o → r ≡ ordering_reverse o
    → (is_lt (parts_cmp zs xs) ≡ false → is_lt (parts_cmp (xs ++ rest) zs) ≡ false → is_front xs zs ≡ true)
    → is_lt (ordering_then o (parts_cmp zs xs)) ≡ false → is_lt (ordering_then r (parts_cmp (xs ++ rest) zs)) ≡ false → (bytes_eq x z && is_front xs zs) ≡ true
between_step x z xs zs rest Less r e q inner a b = Prim.cc a
between_step x z xs zs rest Greater r e q inner a b =
    let w : is_lt (ordering_then (ordering_reverse Greater) (parts_cmp (xs ++ rest) zs)) ≡ false = ap (λ o. is_lt (ordering_then o (parts_cmp (xs ++ rest) zs))) (sym q) ∙ b in Prim.cc w
between_step x z xs zs rest Equal r e q inner a b =
    ap₂ (λ s t. s && t) (same_part x z e) (inner a (ap (λ o. is_lt (ordering_then o (parts_cmp (xs ++ rest) zs))) (sym q) ∙ b))

between : (xs zs rest : List (List ℕ)) → is_lt (parts_cmp zs xs) ≡ false → is_lt (parts_cmp (xs ++ rest) zs) ≡ false → is_front xs zs ≡ true
between [] zs rest a b = refl
between (x ∷ xs) [] rest a b = Prim.cc a
between (x ∷ xs) (z ∷ zs) rest a b = between_step x z xs zs rest (part_cmp z x) (part_cmp x z) refl ((lists_total nat_cmp_total).antisymm x z) (between xs zs rest) a b

-- ---- fronts

front_rest : (xs ys : List (List ℕ)) → is_front xs ys ≡ true → (rest : List (List ℕ)) × (ys ≡ xs ++ rest)
front_rest [] ys e = (ys, refl)
front_rest (x ∷ xs) [] e = Prim.cc e
front_rest (x ∷ xs) (y ∷ ys) e =
    let p = and_parts (bytes_eq x y) (is_front xs ys) e in
    let q = front_rest xs ys p.1 in
    let s : x ≡ y = (bytes_eq-Decides x y).0 p.0 in
    (q.0, ap₂ (λ a l. a ∷ l) (sym s) q.1)

-- a front comes first
front_first : (xs rest : List (List ℕ)) → is_lt (parts_cmp (xs ++ rest) xs) ≡ false
front_first [] [] = refl
front_first [] (y ∷ rest) = refl
front_first (x ∷ xs) rest = ap (λ o. is_lt (ordering_then o (parts_cmp (xs ++ rest) xs))) (tied_itself (lists_total nat_cmp_total) x) ∙ front_first xs rest

crosses_front : (a b : Bool) → (a || b) ≡ true → (a ≡ true) ⊎ (b ≡ true)
crosses_front true b e = inl refl
crosses_front false b e = inr e

or_true : (a b : Bool) → a ≡ true → (a || b) ≡ true
or_true a b e = ap (λ x. x || b) e

-- p overlaps what comes after it in the order: then p leads through
goes_through : (p q : List ℕ) → is_lt (path_cmp q p) ≡ false → overlap p q ≡ true → is_front (parts p) (parts q) ≡ true
goes_through p q up e = go (crosses_front (is_front (parts p) (parts q)) (is_front (parts q) (parts p)) e)
  where
    go : (is_front (parts p) (parts q) ≡ true) ⊎ (is_front (parts q) (parts p) ≡ true) → is_front (parts p) (parts q) ≡ true
    go (inl f) = f
    go (inr f) =
        let r = front_rest (parts q) (parts p) f in
        between (parts p) (parts q) [] up (ap (λ l. is_lt (parts_cmp l (parts q))) (append-nil (parts p) ∙ r.1) ∙ front_first (parts q) r.0)

-- p overlaps r behind q: then it overlaps q
reaches : (p q r : List ℕ) → is_lt (path_cmp q p) ≡ false → is_lt (path_cmp r q) ≡ false → is_lt (path_cmp r p) ≡ false → overlap p r ≡ true → overlap p q ≡ true
reaches p q r up more far e =
    let f = front_rest (parts p) (parts r) (goes_through p r far e) in
    or_true (is_front (parts p) (parts q)) (is_front (parts q) (parts p)) (between (parts p) (parts q) f.0 up (ap (λ l. is_lt (parts_cmp l (parts q))) (sym f.1) ∙ more))

apart_far : (p q r : List ℕ) → is_lt (path_cmp q p) ≡ false → is_lt (path_cmp r q) ≡ false → is_lt (path_cmp r p) ≡ false → overlap p q ≡ false → overlap p r ≡ false
apart_far p q r up more far e = go (overlap p r) refl
  where
    go : (b : Bool) → overlap p r ≡ b → overlap p r ≡ false
    go false h = h
    go true h = let z : true ≡ false = sym (reaches p q r up more far h) ∙ e in absurd (Prim.cc z)

-- ---- whole lists

order : IsStrictWeakOrder (λ (p : List ℕ) (q : List ℕ). is_lt (path_cmp p q))
order = ranks_by path_cmp-total (λ (p : List ℕ). p)

-- each further path comes after p
abbrev Ahead : List ℕ → List (List ℕ) → Type 0
Ahead p qs = AllByRecursion (λ q. is_lt (path_cmp q p) ≡ false) qs

ahead_of : (p q : List ℕ) (rs : List (List ℕ)) → is_lt (path_cmp q p) ≡ false → Ahead q rs → Ahead p rs
ahead_of p q [] up h = tt
ahead_of p q (r ∷ rs) up h = (order.chain r q p h.0 up, ahead_of p q rs up h.1)

-- no path comes before the one ahead of it
abbrev Rise : List (List ℕ) → Type 0
Rise ps = (k : ℕ) (d : List ℕ) → suc k < length ps → is_lt (path_cmp (get_or ps (suc k) d) (get_or ps k d)) ≡ false

abbrev Part : List (List ℕ) → Type 0
Part ps = (k : ℕ) (d : List ℕ) → suc k < length ps → overlap (get_or ps k d) (get_or ps (suc k) d) ≡ false

all_ahead : (p : List ℕ) (qs : List (List ℕ)) → Rise (p ∷ qs) → Ahead p qs
all_ahead p [] up = tt
all_ahead p (q ∷ qs) up =
    let first = up 0 [] (omega arith) in
    (first, ahead_of p q qs first (all_ahead q qs (λ k d h. up (suc k) d (omega (arith, h)))))

apart_from : (p q : List ℕ) (rs : List (List ℕ)) → is_lt (path_cmp q p) ≡ false → overlap p q ≡ false → Ahead q rs → AllByRecursion (λ r. overlap p r ≡ false) rs
apart_from p q [] up e h = tt
apart_from p q (r ∷ rs) up e h = (apart_far p q r up h.0 (order.chain r q p h.0 up) e, apart_from p q rs up e h.1)

all_apart : (ps : List (List ℕ)) → Rise ps → Part ps → IsDistinct overlap ps
unfolding IsDistinct
all_apart [] up h = tt
all_apart (p ∷ []) up h = (tt, tt)
all_apart (p ∷ q ∷ rs) up h =
    let first = up 0 [] (omega arith) in
    let tail : Rise (q ∷ rs) = λ k d l. up (suc k) d (omega (arith, l)) in
    let apart = h 0 [] (omega arith) in
    ((apart, apart_from p q rs first apart (all_ahead q rs tail)), all_apart (q ∷ rs) tail (λ k d l. h (suc k) d (omega (arith, l))))

pub sorted_apart : (ps : List (List ℕ)) → IsSorted path_cmp ps → AllAdjacentBelow (λ p q. overlap p q ≡ false) ps (length ps) → IsDistinct overlap ps
sorted_apart ps up h =
    all_apart ps
    (λ k d l. ap (λ n. is_lt (path_cmp (get_or ps n d) (get_or ps k d))) (sym (add-one k)) ∙ up k d (omega arith) (omega (arith, l)))
    (λ k d l. ap (λ n. overlap (get_or ps k d) (get_or ps n d)) (sym (add-one k)) ∙ h k d (omega (arith, l)))

-- ---- the first overlap

or_flips : (a b : Bool) → (a || b) ≡ (b || a)
or_flips true true = refl
or_flips true false = refl
or_flips false true = refl
or_flips false false = refl

pub flips : (p q : List ℕ) → overlap p q ≡ overlap q p
flips p q = or_flips (is_front (parts p) (parts q)) (is_front (parts q) (parts p))

-- a path overlaps none of those before it in a list of which no two overlap
pub none_over : (p : List ℕ) (before after : List (List ℕ)) → IsDistinct overlap (before ++ p ∷ after) → list_any (overlap p) before ≡ false
unfolding IsDistinct
none_over p [] after d = refl
none_over p (q ∷ before) after d =
    let apart = flips p q ∙ at_last before d.0 in
    ap (λ b. b || list_any (overlap p) before) apart ∙ none_over p before after d.1
  where
    at_last : (before : List (List ℕ)) → AllByRecursion (λ r. overlap q r ≡ false) (before ++ p ∷ after) → overlap q p ≡ false
    at_last [] h = h.0
    at_last (r ∷ before) h = at_last before h.1

-- what sorted neighbours tell of the paths as they were written
pub clear : (ps qs : List (List ℕ)) → IsPermutation ps qs → IsSorted path_cmp qs → AllAdjacentBelow (λ p q. overlap p q ≡ false) qs (length qs) → IsDistinct overlap ps
clear ps qs moved up apart = IsDistinct-IsPermutation overlap flips qs ps (IsPermutation-sym ps qs moved) (sorted_apart qs up apart)

pub none_clear : (ps : List (List ℕ)) → IsDistinct overlap (take 0 ps)
unfolding IsDistinct
none_clear ps = tt
