-- Lists of which the front is taken, place by place.
use Rattle.std.proofs.Common.{◌≡◌, ℕ, zero, suc, ◌≤◌, List, [], ◌∷◌, length, drop, Some, refl, ap, sym, ◌∙◌, arith, slice_get}

abbrev pub tail : {A : Type 0} → List A → List A
tail [] = []
tail (x ∷ xs) = xs

pub drop_suc : {A : Type 0} (i : ℕ) (xs : List A) → drop (suc i) xs ≡ tail (drop i xs)
drop_suc zero [] = refl
drop_suc zero (x ∷ xs) = refl
drop_suc (suc i) [] = refl
drop_suc (suc i) (x ∷ xs) = drop_suc i xs

pub drop_at : {A : Type 0} (i : ℕ) (xs : List A) (x : A) → slice_get xs i ≡ Some x → drop i xs ≡ x ∷ drop (suc i) xs
drop_at i [] x e = cc
drop_at zero (y ∷ xs) x e = let q : y ≡ x = cc in ap (λ z. z ∷ xs) q
drop_at (suc i) (y ∷ xs) x e = drop_at i xs x e

pub drop_all : {A : Type 0} (i : ℕ) (xs : List A) → length xs ≤ i → drop i xs ≡ []
drop_all zero [] h = refl
drop_all (suc i) [] h = refl
drop_all zero (x ∷ xs) h = absurd (omega arith)
drop_all (suc i) (x ∷ xs) h = drop_all i xs (omega arith)

-- the element at a place is the first of those from there on
pub get_drop : {A : Type 0} (i : ℕ) (xs : List A) → slice_get xs i ≡ slice_get (drop i xs) 0
get_drop zero [] = refl
get_drop (suc i) [] = refl
get_drop zero (x ∷ xs) = refl
get_drop (suc i) (x ∷ xs) = get_drop i xs

-- what is the same from a place on has the same element there, and is the same from the next place on
pub get_same : {A : Type 0} (i : ℕ) (xs ys : List A) → drop i xs ≡ drop i ys → slice_get xs i ≡ slice_get ys i
get_same i xs ys e = get_drop i xs ∙ (ap (λ l. slice_get l 0) e ∙ sym (get_drop i ys))

pub drop_same : {A : Type 0} (i : ℕ) (xs ys : List A) → drop i xs ≡ drop i ys → drop (suc i) xs ≡ drop (suc i) ys
drop_same i xs ys e = drop_suc i xs ∙ (ap tail e ∙ sym (drop_suc i ys))
