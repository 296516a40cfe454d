-- Bytes before a separator, and behind it.
use Rattle.std.proofs.Common.{◌≡◌, ◌≢◌, ◌<◌, ◌+◌, ◌-◌, ◌≤◌, length-drop, ◌++◌, ◌∷◌, [], ℕ, zero, suc, List, Bool, true, false, not, ◌&&◌, ◌==◌, IsTrue, length, take, drop, get_or, refl, sym, ◌∙◌, ap, arith}
use Rattle.std.proofs.lemmas.Bool.Decides.{nat_tests}
use Rattle.std.proofs.lemmas.List.{take-append-drop, drop_more, get_or-drop}
use Rattle.std.proofs.Math.Seq.{take-add}
use Rattle.api_serve.specs.Lines.{IsLineLen}
use Rattle.std.proofs.lemmas.List.Folds.{list_all-append}
use Rattle.memchr.specs.Find.{Nowhere, Passes, is_byte}
use Rattle.api_serve.specs.Separated.{is_free_of}

pub both_true : (a b : Bool) → (a && b) ≡ true → (a ≡ true) × (b ≡ true)
both_true true b e = (refl, e)
both_true false b e = absurd (Prim.cc e)

pub joined_true : (a b : Bool) → a ≡ true → b ≡ true → (a && b) ≡ true
joined_true a b p q = Prim.cc (ap (λ (x : Bool). x && b) p, q)

pub other_byte : (x b : ℕ) → not (x == b) ≡ true → x ≢ b
other_byte x b e = grind (arith, nat_tests)

pub is_other_byte : (x b : ℕ) → ((x == b) ≡ true → ⊥) → not (x == b) ≡ true
is_other_byte x b h = flip (x == b) h
  where
    flip : (t : Bool) → (t ≡ true → ⊥) → not t ≡ true
    flip true h = absurd (h refl)
    flip false h = refl

-- bytes are cut at their first separator in one way
pub cut_once : (b : ℕ) (xs us ys vs : List ℕ) → IsTrue (is_free_of b xs) → IsTrue (is_free_of b us) → xs ++ b ∷ ys ≡ us ++ b ∷ vs → (xs ≡ us) × (ys ≡ vs)
cut_once b [] [] ys vs p q e = (refl, Prim.cc e)
cut_once b [] (u ∷ us) ys vs p q e =
    absurd (other_byte u b (both_true (not (u == b)) (is_free_of b us) q).0 (let same : b ≡ u = Prim.cc e in sym same))
cut_once b (x ∷ xs) [] ys vs p q e =
    absurd (other_byte x b (both_true (not (x == b)) (is_free_of b xs) p).0 (let same : x ≡ b = Prim.cc e in same))
cut_once b (x ∷ xs) (u ∷ us) ys vs p q e =
    let same : x ≡ u = Prim.cc e in
    let rest : xs ++ b ∷ ys ≡ us ++ b ∷ vs = Prim.cc e in
    let parts = cut_once b xs us ys vs (both_true (not (x == b)) (is_free_of b xs) p).1 (both_true (not (u == b)) (is_free_of b us) q).1 rest in
    ((λ i. same i ∷ parts.0 i), parts.1)

-- bytes with a separator aren't free of it
pub not_free : (b : ℕ) (xs ys : List ℕ) → IsTrue (is_free_of b (xs ++ b ∷ ys)) → ⊥
not_free b [] ys p = other_byte b b (both_true (not (b == b)) (is_free_of b ys) p).0 refl
not_free b (x ∷ xs) ys p = not_free b xs ys (both_true (not (x == b)) (is_free_of b (xs ++ b ∷ ys)) p).1

pub free_before : (b : ℕ) (hay : List ℕ) (n : ℕ) → Nowhere (Passes (is_byte b) hay) 0 n → IsTrue (is_free_of b (take n hay))
free_before b hay zero h = refl
free_before b [] (suc n) h = refl
free_before b (x ∷ xs) (suc n) h =
    joined_true (not (x == b)) (is_free_of b (take n xs)) (is_other_byte x b (λ e. h 0 (omega arith) (omega arith) e))
    (free_before b xs n (λ k low high e. h (suc k) (omega arith) (omega arith) e))

pub take_all : (xs : List ℕ) → take (length xs) xs ≡ xs
take_all [] = refl
take_all (x ∷ xs) = ap (λ ys. x ∷ ys) (take_all xs)

pub free_all : (b : ℕ) (hay : List ℕ) → Nowhere (Passes (is_byte b) hay) 0 (length hay) → IsTrue (is_free_of b hay)
free_all b hay h = ap (is_free_of b) (sym (take_all hay)) ∙ free_before b hay (length hay) h

take_none : (n : ℕ) (xs : List ℕ) → xs ≡ [] → take n xs ≡ []
take_none zero xs e = refl
take_none (suc n) [] e = refl
take_none (suc n) (x ∷ xs) e = absurd (Prim.cc e)

take_rest : (n : ℕ) (xs : List ℕ) → length xs ≤ n → take n xs ≡ xs
take_rest n [] h = take_none n [] refl
take_rest zero (x ∷ xs) h = absurd (omega arith)
take_rest (suc n) (x ∷ xs) h = ap (λ ys. x ∷ ys) (take_rest n xs (omega arith))

-- bytes without a separator and then bytes without it
pub free_joined : (b : ℕ) (xs ys : List ℕ) → IsTrue (is_free_of b xs) → IsTrue (is_free_of b ys) → IsTrue (is_free_of b (xs ++ ys))
free_joined b xs ys p q = list_all-append (λ x. not (x == b)) xs ys ∙ joined_true (is_free_of b xs) (is_free_of b ys) p q

-- bytes are what stands before a place, its byte, and all behind it
pub cut_here : (bytes : List ℕ) (at b : ℕ) → at < length bytes → (get_or bytes at 0 == b) ≡ true → bytes ≡ take at bytes ++ b ∷ drop (at + 1) bytes
cut_here bytes at b h e =
    let same : get_or bytes at 0 ≡ b = grind (arith, nat_tests) in
    sym (take-append-drop at bytes) ∙ ap (λ xs. take at bytes ++ xs) (drop_more bytes at 0 h ∙ (λ i. same i ∷ drop (at + 1) bytes))

-- bytes are what stands before a place, its byte, and what stands behind it
pub cut_at : (bytes : List ℕ) (at n : ℕ) (b : ℕ) → at < length bytes → (get_or bytes at 0 == b) ≡ true → length bytes ≤ n + (at + 1) → bytes ≡ take at bytes ++ b ∷ take n (drop (at + 1) bytes)
cut_at [] at n b h e m = absurd (omega arith)
cut_at (x ∷ xs) zero n b h e m =
    let same : x ≡ b = grind (arith, nat_tests) in
    λ i. same i ∷ sym (take_rest n xs (omega arith)) i
cut_at (x ∷ xs) (suc at) n b h e m =
    ap (λ ys. x ∷ ys) (cut_at xs at n b (omega arith) e (omega arith)) ∙ ap (λ k. x ∷ (take at xs ++ b ∷ take n (drop k (x ∷ xs)))) (suc_place at)
  where
    suc_place : (at : ℕ) → suc (at + 1) ≡ suc at + 1
    suc_place at = omega arith

-- the first line ends at the first LF behind bytes that are known to hold none
pub line_ends : (bytes hay : List ℕ) (s p : ℕ) → hay ≡ drop s bytes → s ≤ length bytes → IsTrue (is_free_of 10 (take s bytes)) → p < length hay
    → Nowhere (Passes (is_byte 10) hay) 0 p → (get_or hay p 0 == 10) ≡ true → IsLineLen bytes (s + p)
line_ends bytes hay s p is within free here nowhere found =
    let below : s + p < length bytes = omega (arith, ap length is, length-drop s bytes) in
    record {
      within = below;
      free = ap (is_free_of 10) (take-add s p bytes) ∙ free_joined 10 (take s bytes) (take p (drop s bytes)) free (ap (λ xs. is_free_of 10 (take p xs)) (sym is) ∙ free_before 10 hay p nowhere);
      text = cut_here bytes (s + p) 10 below (ap (λ x. x == 10) (sym (ap (λ xs. get_or xs p 0) is ∙ get_or-drop s bytes p 0)) ∙ found);
    }

pub no_line_ends : (bytes hay : List ℕ) (s : ℕ) → hay ≡ drop s bytes → IsTrue (is_free_of 10 (take s bytes)) → Nowhere (Passes (is_byte 10) hay) 0 (length hay) → IsTrue (is_free_of 10 bytes)
no_line_ends bytes hay s is free nowhere =
    ap (is_free_of 10) (sym (take-append-drop s bytes)) ∙ free_joined 10 (take s bytes) (drop s bytes) free (ap (is_free_of 10) (sym is) ∙ free_all 10 hay nowhere)

pub whole_rest : (s : ℕ) (bytes : List ℕ) → take (length bytes - s) (drop s bytes) ≡ drop s bytes
whole_rest s bytes = take_rest (length bytes - s) (drop s bytes) (omega (arith, length-drop s bytes))
