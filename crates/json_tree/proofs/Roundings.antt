-- Values that are kept with 38 digits at most.
use Rattle.std.proofs.Common.{◌≡◌, ℕ, ℤ, pos, negsuc, ◌+ℤ◌, ◌-ℤ◌, ◌≤ℤ◌, ◌<ℤ◌, zero, suc, ◌+◌, ◌-◌, ◌*◌, ◌^◌, ◌<◌, ◌≤◌, List, [], ◌∷◌, length, get_or, drop, Bool, true, false, ◌||◌, not, eqb, Option, Some, None, option_and_then, refl, sym, ap, ◌∙◌, subst, ◌⊎◌, inl, inr, ⊎_elim, arith}
use Rattle.std.proofs.lemmas.Bool.{true≢false, cases_lt, eq-eqb, ne_eqb, and_parts}
use Rattle.std.specs.List.{list_all}
use Rattle.std.specs.Char.{is_ascii_digit, digit_value}
use Rattle.std.specs.Str.Parse.{digits_value_after}
use Rattle.std.proofs.lemmas.Int.{ints}
use Rattle.json_tree.specs.Num.{in_range}
use Rattle.json_tree.specs.Cut.{IsCut}
use Rattle.json_tree.specs.Rounded.{IsRounded, IsLost}
use Rattle.json_tree.specs.declared.digits.Rounded.{Rounded}
use Rattle.json_tree.specs.DigitLists.{digit_is, next_digit, value_grows}
use Rattle.std.proofs.Math.Nat.{pow-succ', pow-le-pow_right}
use Rattle.json_tree.specs.Decimals.{ten_step, fitted, scaled-times, fitted-far, fitted-zero, fitted-lost}

lost_rest : (b : Bool) (r : ℕ) → IsLost b r → b ≡ true → 0 < r
lost_rest true r l e = l
lost_rest false r l e = absurd (true≢false (sym e))

kept_rest : (b : Bool) (r : ℕ) → IsLost b r → b ≡ false → r ≡ 0
kept_rest true r l e = absurd (true≢false e)
kept_rest false r l e = l

some_zeros : (z r : ℕ) → r < 10 ^ z → 0 < r → 0 < z
some_zeros zero r h g = absurd (omega arith)
some_zeros (suc z) r h g = omega arith

pub rounded_lost : (v : ℕ) (r : Rounded) (p : ℤ) → IsRounded v r → r.lost ≡ true → fitted v p ≡ None
rounded_lost v r p d e =
    let some = lost_rest r.lost d.rest d.lost e in
    ap (λ n. fitted n p) d.value ∙ fitted-lost r.coefficient r.zeros d.rest p d.small some (d.grown (some_zeros r.zeros d.rest d.small some))

pub rounded_kept : (v : ℕ) (r : Rounded) → IsRounded v r → r.lost ≡ false → v ≡ r.coefficient * 10 ^ r.zeros
rounded_kept v r d e = omega (arith, d.value, kept_rest r.lost d.rest d.lost e)

pub rounded_zero : (v : ℕ) (r : Rounded) (p : ℤ) → IsRounded v r → r.lost ≡ false → r.coefficient ≡ 0 → fitted v p ≡ Some 0
rounded_zero v r p d e z =
    let none : v ≡ 0 = rounded_kept v r d e ∙ ap (λ c. c * 10 ^ r.zeros) z ∙ zero_times r.zeros in
    ap (λ n. fitted n p) none ∙ fitted-zero p
  where
    zero_times : (k : ℕ) → 0 * 10 ^ k ≡ 0
    zero_times k = omega arith

pub rounded_power : (v : ℕ) (r : Rounded) (p : ℤ) → IsRounded v r → r.lost ≡ false → fitted v p ≡ fitted r.coefficient (p +ℤ pos r.zeros)
rounded_power v r p d e = ap (λ n. fitted n p) (rounded_kept v r d e) ∙ ap (option_and_then in_range) (scaled-times r.coefficient r.zeros p)

pub rounded_far : (v : ℕ) (r : Rounded) (p : ℤ) → IsRounded v r → r.lost ≡ false → (r.coefficient ≡ 0 → ⊥) → (pos 38 <ℤ (p +ℤ pos r.zeros)) ⊎ ((p +ℤ pos r.zeros) <ℤ negsuc 37) → fitted v p ≡ None
rounded_far v r p d e some far =
    rounded_power v r p d e ∙ fitted-far r.coefficient (p +ℤ pos r.zeros) (omega arith) d.fits (⊎_elim (λ h. inl (omega (arith, ints))) (λ h. inr (omega (arith, ints))) far)

-- ---- one more digit

lost_more : (b : Bool) (rest digit : ℕ) → IsLost b rest → IsLost (b || not (eqb digit 0)) (rest * 10 + digit)
lost_more true rest digit l = omega arith
lost_more false rest digit l = ⊎_elim (λ h. none (omega arith)) (λ h. some (omega arith)) (cases_lt digit 1)
  where
    none : digit ≡ 0 → IsLost (not (eqb digit 0)) (rest * 10 + digit)
    none e = subst (λ t. IsLost (not t) (rest * 10 + digit)) (sym (eq-eqb digit 0 e)) (omega arith)

    some : 0 < digit → IsLost (not (eqb digit 0)) (rest * 10 + digit)
    some h = subst (λ t. IsLost (not t) (rest * 10 + digit)) (sym (ne_eqb digit 0 (λ e. absurd (omega arith)))) (omega arith)

pub digit_lost : (v digit : ℕ) (r : Rounded) → IsRounded v r → digit < 10 → (0 < r.zeros) ⊎ (10 ^ 37 ≤ r.coefficient)
    → IsRounded (v * 10 + digit) (record { coefficient = r.coefficient; zeros = r.zeros + 1; lost = r.lost || not (eqb digit 0) })
digit_lost v digit r d small full =
    let next : r.zeros + 1 ≡ suc r.zeros = omega arith in
    let tens = ten_step r.coefficient r.zeros in
    let ten = ten_step 1 r.zeros in
    record {
      rest = d.rest * 10 + digit;
      value = omega (arith, d.value, tens, ap (λ k. r.coefficient * 10 ^ k) next);
      small = subst (λ k. d.rest * 10 + digit < 10 ^ k) (sym next) (omega (arith, d.small, ten));
      lost = lost_more r.lost d.rest digit d.lost;
      fits = d.fits;
      grown = λ h. ⊎_elim d.grown (λ k. k) full;
    }

-- a result at a power that is spelled otherwise
pub at_power : (r : Option ℕ) (v n : ℕ) (p q power : ℤ) → r ≡ fitted n p → fitted v power ≡ fitted n q → p ≡ q → r ≡ fitted v power
at_power r v n p q power e f same = e ∙ ap (fitted n) same ∙ sym f

-- the same at two powers that are far off on one side
abbrev Far : ℤ → ℤ → Type 0
Far p q = ((pos (2 ^ 66) ≤ℤ p) × (pos (2 ^ 66) ≤ℤ q)) ⊎ ((p ≤ℤ negsuc (2 ^ 66)) × (q ≤ℤ negsuc (2 ^ 66)))

far_by : (v : ℕ) (r : Rounded) (p q : ℤ) (b : Bool) (c : ℕ) → IsRounded v r → r.zeros < 2 ^ 65 → Far p q → r.lost ≡ b → r.coefficient ≡ c → fitted v p ≡ fitted v q
far_by v r p q true c d small far e f = rounded_lost v r p d e ∙ sym (rounded_lost v r q d e)
far_by v r p q false zero d small far e f = rounded_zero v r p d e f ∙ sym (rounded_zero v r q d e f)
far_by v r p q false (suc c) d small far e f =
    let some : r.coefficient ≡ 0 → ⊥ = λ z. absurd (omega arith) in
    ⊎_elim
    (λ h. rounded_far v r p d e some (inl (omega (arith, ints, h.0))) ∙ sym (rounded_far v r q d e some (inl (omega (arith, ints, h.1)))))
    (λ h. rounded_far v r p d e some (inr (omega (arith, ints, h.0))) ∙ sym (rounded_far v r q d e some (inr (omega (arith, ints, h.1))))) far

-- an exponent that is cut off gives the same
pub cut_alike : (v : ℕ) (r : Rounded) (e cut p : ℤ) (len : ℕ) → IsRounded v r → r.zeros < 2 ^ 65 → IsCut e cut → len < 2 ^ 64 → p ≡ (cut -ℤ pos len) +ℤ pos 18 → fitted v p ≡ fitted v ((e -ℤ pos len) +ℤ pos 18)
cut_alike v r e cut p len d small is short at =
    ap (fitted v) at ∙ ⊎_elim (λ same. ap (λ z. fitted v ((z -ℤ pos len) +ℤ pos 18)) same)
    (λ far. far_by v r _ _ r.lost r.coefficient d small (⊎_elim (λ h. inl (omega (arith, ints, h.1), omega (arith, ints, h.0))) (λ h. inr (omega (arith, ints, h.1), omega (arith, ints, h.0))) far) refl refl) is.same

pub zero_rounded : IsRounded 0 (record { coefficient = 0; zeros = 0; lost = false })
zero_rounded = record { rest = 0; value = refl; small = omega arith; lost = refl; fits = omega arith; grown = λ h. absurd (omega arith) }

-- ---- numbers of few digits

pub few_rounded : (n : ℕ) → n < 10 ^ 18 → IsRounded n (record { coefficient = n; zeros = 0; lost = false })
few_rounded n h = record { rest = 0; value = omega arith; small = omega arith; lost = refl; fits = omega arith; grown = λ h. absurd (omega arith) }

-- so many digits make a number below that power of ten
value_below : (n k : ℕ) (ds : List ℕ) → list_all is_ascii_digit ds ≡ true → n < 10 ^ k → digits_value_after 10 n ds < 10 ^ (k + length ds)
value_below n k [] all h = let none : k + 0 ≡ k = omega arith in subst (λ j. n < 10 ^ j) (sym none) h
value_below n k (d ∷ ds) all h =
    let both = and_parts (is_ascii_digit d) (list_all is_ascii_digit ds) all in
    let digit = digit_is d both.0 in
    let next : n * 10 + digit_value d < 10 ^ suc k = omega (arith, h, digit.0, digit.1, pow-succ' 10 k) in
    let sum : suc k + length ds ≡ k + suc (length ds) = omega arith in
    subst (λ j. digits_value_after 10 (n * 10 + digit_value d) ds < 10 ^ j) sum (value_below (n * 10 + digit_value d) (suc k) ds both.1 next)

few_below : (m : ℕ) → m ≤ 18 → 10 ^ m ≤ 10 ^ 18
few_below m h = pow-le-pow_right {n = 10} (omega arith) {i = m} {j = 18} h

pub few_whole : (w : List ℕ) → list_all is_ascii_digit w ≡ true → length w ≤ 18 → digits_value_after 10 0 w < 10 ^ 18
few_whole w all h = omega (arith, value_below 0 0 w all (omega arith), few_below (0 + length w) (omega arith))

pub few_digits : (n : ℕ) (w f : List ℕ) → n ≡ digits_value_after 10 0 w → list_all is_ascii_digit w ≡ true → list_all is_ascii_digit f ≡ true → length w ≤ 18 → length f ≤ 18 - length w → digits_value_after 10 n f < 10 ^ 18
few_digits n w f e all more h k =
    let below : n < 10 ^ (0 + length w) = omega (arith, e, value_below 0 0 w all (omega arith)) in
    omega (arith, value_below n (0 + length w) f more below, few_below (0 + length w + length f) (omega arith))

-- a digit more stays below
pub few_more : (ds : List ℕ) (i n v : ℕ) → i < length ds → list_all is_ascii_digit (drop i ds) ≡ true → digits_value_after 10 n (drop i ds) ≡ v → v < 10 ^ 18 → n * 10 + (get_or ds i 0 - 48) < 10 ^ 18
few_more ds i n v h all e small =
    let next = next_digit ds i h all in
    omega (arith, next.2 n, e, value_grows (n * 10 + (get_or ds i 0 - 48)) (drop (i + 1) ds))
