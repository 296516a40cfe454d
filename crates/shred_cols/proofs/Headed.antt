-- Ids whose beginnings differ stand as these do.
use Rattle.std.proofs.Common.{◌≡◌, ◌<◌, ◌≤◌, ◌+◌, ℕ, zero, suc, List, [], ◌∷◌, ◌++◌, take, length, get_or, refl, sym, ◌∙◌, ap, arith}
use Rattle.std.specs.List.{slice_set}
use Rattle.std.proofs.lemmas.List.{take_more, take_more_set, take_all}
use Rattle.std.specs.declared.cmp.Ordering.{Ordering}
use Rattle.std.specs.declared.cmp.Ordering.TheVariants.{Less, Equal, Greater}
use Rattle.std.specs.Ordering.{nat_cmp, int_cmp, ordering_then}
use Rattle.std.specs.Cmp.Lexicographic.{slice_cmp}
use Rattle.std.proofs.lemmas.Cmp.{ranked}
use Rattle.json_tree.specs.Tree.{Tree}
use Rattle.json_tree.specs.Id.{id_cmp, id_tag, id_text, id_number}
use Rattle.shred_cols.specs.Beginning.{padded, beginning}

then_less : (o a b : Ordering) → (a ≡ Less → b ≡ Less) → ordering_then o a ≡ Less → ordering_then o b ≡ Less
then_less Less a b f h = refl
then_less Equal a b f h = f h
then_less Greater a b f h = absurd (Prim.cc h)

then_greater : (o a b : Ordering) → (a ≡ Greater → b ≡ Greater) → ordering_then o a ≡ Greater → ordering_then o b ≡ Greater
then_greater Less a b f h = absurd (Prim.cc h)
then_greater Equal a b f h = f h
then_greater Greater a b f h = refl

none_less : (xs : List ℕ) → slice_cmp nat_cmp xs [] ≡ Less → ⊥
none_less [] h = Prim.cc h
none_less (x ∷ xs) h = Prim.cc h

none_greater : (xs : List ℕ) → slice_cmp nat_cmp [] xs ≡ Greater → ⊥
none_greater [] h = Prim.cc h
none_greater (x ∷ xs) h = Prim.cc h

no_less : (x : ℕ) (r o : Ordering) → o ≡ nat_cmp (suc x) 0 → ordering_then o r ≡ Less → ⊥
no_less x r Less e h = let l : suc x < 0 = ranked (suc x) 0 Less e in omega (arith, l)
no_less x r Equal e h = let l : suc x ≡ 0 = ranked (suc x) 0 Equal e in omega (arith, l)
no_less x r Greater e h = Prim.cc h

no_greater : (y : ℕ) (r o : Ordering) → o ≡ nat_cmp 0 (suc y) → ordering_then o r ≡ Greater → ⊥
no_greater y r Less e h = Prim.cc h
no_greater y r Equal e h = let l : 0 ≡ suc y = ranked 0 (suc y) Equal e in omega (arith, l)
no_greater y r Greater e h = let l : suc y < 0 = ranked 0 (suc y) Greater e in omega (arith, l)

padded_less : (n : ℕ) (xs ys : List ℕ) → slice_cmp nat_cmp (padded n xs) (padded n ys) ≡ Less → slice_cmp nat_cmp xs ys ≡ Less
padded_less zero xs ys h = absurd (Prim.cc h)
padded_less (suc n) [] [] h = padded_less n [] [] h
padded_less (suc n) [] (y ∷ ys) h = refl
padded_less (suc n) (zero ∷ xs) [] h = absurd (none_less xs (padded_less n xs [] h))
padded_less (suc n) (suc x ∷ xs) [] h = absurd (no_less x (slice_cmp nat_cmp (padded n xs) (padded n [])) (nat_cmp (suc x) 0) refl h)
padded_less (suc n) (x ∷ xs) (y ∷ ys) h = then_less (nat_cmp x y) (slice_cmp nat_cmp (padded n xs) (padded n ys)) (slice_cmp nat_cmp xs ys) (padded_less n xs ys) h

padded_greater : (n : ℕ) (xs ys : List ℕ) → slice_cmp nat_cmp (padded n xs) (padded n ys) ≡ Greater → slice_cmp nat_cmp xs ys ≡ Greater
padded_greater zero xs ys h = absurd (Prim.cc h)
padded_greater (suc n) [] [] h = padded_greater n [] [] h
padded_greater (suc n) (x ∷ xs) [] h = refl
padded_greater (suc n) [] (zero ∷ ys) h = absurd (none_greater ys (padded_greater n [] ys h))
padded_greater (suc n) [] (suc y ∷ ys) h = absurd (no_greater y (slice_cmp nat_cmp (padded n []) (padded n ys)) (nat_cmp 0 (suc y)) refl h)
padded_greater (suc n) (x ∷ xs) (y ∷ ys) h = then_greater (nat_cmp x y) (slice_cmp nat_cmp (padded n xs) (padded n ys)) (slice_cmp nat_cmp xs ys) (padded_greater n xs ys) h

pub begins_less : (a b : Tree) → slice_cmp nat_cmp (beginning a) (beginning b) ≡ Less → id_cmp a b ≡ Less
begins_less a b h =
    then_less (nat_cmp (id_tag a) (id_tag b)) (slice_cmp nat_cmp (padded 15 (id_text a)) (padded 15 (id_text b))) (ordering_then (slice_cmp nat_cmp (id_text a) (id_text b)) (int_cmp (id_number a) (id_number b)))
    (λ e. ap (λ o. ordering_then o (int_cmp (id_number a) (id_number b))) (padded_less 15 (id_text a) (id_text b) e)) h

pub begins_greater : (a b : Tree) → slice_cmp nat_cmp (beginning a) (beginning b) ≡ Greater → id_cmp a b ≡ Greater
begins_greater a b h =
    then_greater (nat_cmp (id_tag a) (id_tag b)) (slice_cmp nat_cmp (padded 15 (id_text a)) (padded 15 (id_text b))) (ordering_then (slice_cmp nat_cmp (id_text a) (id_text b)) (int_cmp (id_number a) (id_number b)))
    (λ e. ap (λ o. ordering_then o (int_cmp (id_number a) (id_number b))) (padded_greater 15 (id_text a) (id_text b) e)) h

-- ---- made byte by byte

pub length-padded : (n : ℕ) (bs : List ℕ) → length (padded n bs) ≡ n
length-padded zero bs = refl
length-padded (suc n) [] = ap suc (length-padded n [])
length-padded (suc n) (b ∷ bs) = ap suc (length-padded n bs)

padded_none : (n i : ℕ) → get_or (padded n []) i 0 ≡ 0
padded_none zero i = refl
padded_none (suc n) zero = refl
padded_none (suc n) (suc i) = padded_none n i

pub padded_at : (n : ℕ) (bs : List ℕ) (i : ℕ) → i < n → get_or (padded n bs) i 0 ≡ get_or bs i 0
padded_at zero bs i h = absurd (omega (arith, h))
padded_at (suc n) [] i h = padded_none (suc n) i
padded_at (suc n) (b ∷ bs) zero h = refl
padded_at (suc n) (b ∷ bs) (suc i) h = padded_at n bs i (omega (arith, h))

pub filled_more : (xs : List ℕ) (first : ℕ) (bs : List ℕ) (i b : ℕ) → length xs ≡ 16 → i < 15 → b ≡ get_or bs i 0 → take (i + 1) xs ≡ first ∷ take i (padded 15 bs) → take (i + 1 + 1) (slice_set xs (i + 1) b) ≡ first ∷ take (i + 1) (padded 15 bs)
filled_more xs first bs i b n l e h =
    take_more_set xs (i + 1) b (omega (arith, n, l)) ∙ ap (λ z. z ++ b ∷ []) h
    ∙ ap (λ z. first ∷ z) (ap (λ z. take i (padded 15 bs) ++ z ∷ []) (e ∙ sym (padded_at 15 bs i l)) ∙ sym (take_more (padded 15 bs) i 0 (omega (arith, l, length-padded 15 bs))))

pub filled_all : (xs : List ℕ) (first : ℕ) (bs : List ℕ) (i : ℕ) → length xs ≡ 16 → 15 ≤ i → take (i + 1) xs ≡ first ∷ take i (padded 15 bs) → xs ≡ first ∷ padded 15 bs
filled_all xs first bs i n l h = sym (take_all (i + 1) xs (omega (arith, n, l))) ∙ h ∙ ap (λ z. first ∷ z) (take_all i (padded 15 bs) (omega (arith, l, length-padded 15 bs)))
