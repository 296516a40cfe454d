-- Different parts name different places.
use Rattle.std.proofs.Common.{◌≡◌, ◌<◌, ◌≤◌, ◌+◌, ◌*◌, ◌-◌, ⊎_elim, ℕ, zero, suc, true, not, ◌||◌, ◌==◌, List, [], ◌∷◌, ◌++◌, length, replicate, Some, refl, sym, ◌∙◌, ap, ap₂, arith}
use Rattle.std.specs.List.{list_all}
use Rattle.std.specs.Char.{is_ascii_digit}
use Rattle.std.proofs.lemmas.Bool.{and_parts, or_cases, eqb-true, eq-eqb, not-true, leb-true}
use Rattle.std.proofs.lemmas.Option.{cond_some}
use Rattle.doc_paths.specs.Text.{number_from, is_index, is_empty, index_of}

digit_range : (d : ℕ) → is_ascii_digit d ≡ true → (48 ≤ d) × (d ≤ 57)
digit_range d h = let both = and_parts _ _ h in (leb-true 48 d both.0, leb-true d 57 both.1)

-- digits of one length tell their number
same_digits : (ds es : List ℕ) (a b : ℕ) → list_all is_ascii_digit ds ≡ true → list_all is_ascii_digit es ≡ true → length ds ≡ length es
    → number_from a ds ≡ number_from b es → (a ≡ b) × (ds ≡ es)
same_digits [] [] a b p q n e = (e, refl)
same_digits [] (e ∷ es) a b p q n h = absurd (omega (arith, n))
same_digits (d ∷ ds) [] a b p q n h = absurd (omega (arith, n))
same_digits (d ∷ ds) (e ∷ es) a b p q n h =
    let one = and_parts (is_ascii_digit d) (list_all is_ascii_digit ds) p in
    let two = and_parts (is_ascii_digit e) (list_all is_ascii_digit es) q in
    let dr = digit_range d one.0 in
    let er = digit_range e two.0 in
    let m : length ds ≡ length es = omega (arith, n) in
    let rest = same_digits ds es (a * 10 + (d - 48)) (b * 10 + (e - 48)) one.1 two.1 m h in
    let s : a * 10 + (d - 48) ≡ b * 10 + (e - 48) = rest.0 in
    let first : a ≡ b = omega (arith, s, dr.0, dr.1, er.0, er.1) in
    let digit : d ≡ e = omega (arith, s, dr.0, dr.1, er.0, er.1) in
    (first, ap₂ (λ x xs. x ∷ xs) digit rest.1)

number_zeros : (k : ℕ) (ds : List ℕ) → number_from 0 (replicate k 48 ++ ds) ≡ number_from 0 ds
number_zeros zero ds = refl
number_zeros (suc k) ds = number_zeros k ds

digits_zeros : (k : ℕ) (ds : List ℕ) → list_all is_ascii_digit ds ≡ true → list_all is_ascii_digit (replicate k 48 ++ ds) ≡ true
digits_zeros zero ds h = h
digits_zeros (suc k) ds h = digits_zeros k ds h

length_zeros : (k : ℕ) (ds : List ℕ) → length (replicate k 48 ++ ds) ≡ k + length ds
length_zeros zero ds = omega arith
length_zeros (suc k) ds = omega (arith, length_zeros k ds)

all_digits : (part : List ℕ) → is_index part ≡ true → (list_all is_ascii_digit part ≡ true) × (0 < length part)
all_digits [] h = absurd (Prim.cc h)
all_digits (d ∷ ds) h = ((and_parts (list_all is_ascii_digit (d ∷ ds)) (not (d == 48) || is_empty ds) h).0, omega arith)

alone_zero : (ds part : List ℕ) → is_index part ≡ true → 48 ∷ ds ≡ part → length ds ≡ 0
alone_zero ds [] h e = absurd (Prim.cc e)
alone_zero ds (c ∷ cs) h e =
    let both = and_parts (list_all is_ascii_digit (c ∷ cs)) (not (c == 48) || is_empty cs) h in
    let d : 48 ≡ c = Prim.cc e in
    let l : ds ≡ cs = Prim.cc e in
    ⊎_elim (λ q. absurd (let z = not-true (c == 48) q in let y = eq-eqb c 48 (sym d) in Prim.cc (z, y))) (λ q. ap length l ∙ eqb-true (length cs) 0 q) (or_cases (not (c == 48)) (is_empty cs) both.1)

-- the shorter of two numerals has the smaller number
same_length : (p q : List ℕ) (k : ℕ) → is_index p ≡ true → is_index q ≡ true → k + length p ≡ length q → number_from 0 p ≡ number_from 0 q → p ≡ q
same_length p q zero hp hq n e = (same_digits p q 0 0 (all_digits p hp).0 (all_digits q hq).0 (omega (arith, n)) e).1
same_length p q (suc k) hp hq n e =
    let dp = all_digits p hp in
    let same = (same_digits (replicate (suc k) 48 ++ p) q 0 0 (digits_zeros (suc k) p dp.0) (all_digits q hq).0 (length_zeros (suc k) p ∙ n) (number_zeros (suc k) p ∙ e)).1 in
    let short : length (replicate k 48 ++ p) ≡ 0 = alone_zero (replicate k 48 ++ p) q hq same in
    absurd (omega (arith, short, length_zeros k p, dp.1))

same_numeral : (p q : List ℕ) → is_index p ≡ true → is_index q ≡ true → number_from 0 p ≡ number_from 0 q → p ≡ q
same_numeral p q hp hq e = go (length q - length p) (length p - length q) refl refl
  where
    go : (k l : ℕ) → length q - length p ≡ k → length p - length q ≡ l → p ≡ q
    go k zero a b = same_length p q k hp hq (omega (arith, a, b)) e
    go k (suc l) a b = sym (same_length q p (suc l) hq hp (omega (arith, a, b)) (sym e))

-- a place is named by one part
pub one_part : (p q : List ℕ) (n : ℕ) → index_of p ≡ Some n → index_of q ≡ Some n → p ≡ q
one_part p q n a b =
    let x = cond_some (is_index p) (number_from 0 p) n a in
    let y = cond_some (is_index q) (number_from 0 q) n b in
    same_numeral p q x.0 y.0 (x.1 ∙ sym y.1)
