-- Powers of ten, and what is left after dividing by them.
use Rattle.std.proofs.Common.{◌≡◌, ◌≢◌, ℕ, ℤ, pos, negsuc, ◌+ℤ◌, zero, suc, ◌+◌, ◌-◌, ◌*◌, ◌/◌, ◌%◌, ◌^◌, ◌<◌, ◌≤◌, Bool, true, false, cond, eqb, Option, Some, None, option_and_then, refl, sym, ap, ap₂, ◌∙◌, arith, ◌≤ℤ◌, ◌⊎◌, inl, inr, ⊎_elim}
use Rattle.std.proofs.Math.Nat.{pow-succ', mul_assoc, mul_comm, le-mul_of_pos_right, one-le-pow, mul-le-mul_right, mul-mod_left, mul-div_cancel, mul-div-mul_right, div-add-mod', mul-add-mod_self_right, mod-eq_of_lt, mod-lt, mul-lt-mul_of_pos_right, add-mul, zero-mul, pow-le-pow_right, le-div_iff_mul-le}
use Rattle.std.proofs.Math.Pow.{pow-add}
use Rattle.std.proofs.lemmas.Bool.{lt-ltb, le-ltb, eq-eqb, ne_eqb, cases_lt}
use Rattle.std.proofs.lemmas.Int.{ints}
use Rattle.json_tree.specs.Num.{in_range, scaled}

pub ten_pos : (k : ℕ) → 0 < 10 ^ k
ten_pos k = omega (arith, one-le-pow k 10 (omega arith))

pub ten_step : (n k : ℕ) → n * 10 * 10 ^ k ≡ n * 10 ^ suc k
ten_step n k = mul_assoc n 10 (10 ^ k) ∙ ap (λ p. n * p) (sym (pow-succ' 10 k))

pub ten_fits : (n k : ℕ) → n * 10 ≤ n * 10 ^ suc k
ten_fits n k = omega (arith, le-mul_of_pos_right {m = 10 ^ k} (n * 10) (ten_pos k), ten_step n k)

pub ten_grows : (n k : ℕ) → n ≤ n * 10 ^ k
ten_grows n k = le-mul_of_pos_right {m = 10 ^ k} n (ten_pos k)

pub ten_split : (n i k : ℕ) → n * 10 ^ (i + k) ≡ n * 10 ^ i * 10 ^ k
ten_split n i k = ap (λ p. n * p) (pow-add 10 i k) ∙ sym (mul_assoc n (10 ^ i) (10 ^ k))

pub in_range-small : (n : ℕ) → n < 10 ^ 38 → in_range n ≡ Some n
in_range-small n h = ap (λ b. cond b (Some n) None) (lt-ltb n (10 ^ 38) h)

pub in_range-large : (n : ℕ) → 10 ^ 38 ≤ n → in_range n ≡ None
in_range-large n h = ap (λ b. cond b (Some n) None) (le-ltb n (10 ^ 38) h)

-- n divided by a power of ten, where that is whole
abbrev pub divided : ℕ → ℕ → Option ℕ
divided n k = cond (eqb (n % 10 ^ k) 0) (Some (n / 10 ^ k)) None

pub divided-whole : (n q k : ℕ) → n ≡ q * 10 ^ k → divided n k ≡ Some q
divided-whole n q k e =
    ap (λ m. divided m k) e ∙ ap (λ b. cond b (Some (q * 10 ^ k / 10 ^ k)) None) (eq-eqb _ 0 (mul-mod_left q (10 ^ k))) ∙ ap Some (mul-div_cancel q (ten_pos k))

pub divided-part : (n k : ℕ) → n % 10 ^ k ≢ 0 → divided n k ≡ None
divided-part n k h = ap (λ b. cond b (Some (n / 10 ^ k)) None) (ne_eqb (n % 10 ^ k) 0 h)

whole_quotient : (n k : ℕ) → n % 10 ^ k ≡ 0 → n ≡ n / 10 ^ k * 10 ^ k
whole_quotient n k h = omega (arith, div-add-mod' n (10 ^ k))

cancelled : (a b i : ℕ) → a * 10 ^ i ≡ b * 10 ^ i → a ≡ b
cancelled a b i e = sym (mul-div_cancel a (ten_pos i)) ∙ ap (λ n. n / 10 ^ i) e ∙ mul-div_cancel b (ten_pos i)

-- what isn't divided by ten once more isn't divided by more of them
pub divided-none : (n q i k : ℕ) → n ≡ q * 10 ^ i → i < k → q % 10 ≢ 0 → divided n k ≡ None
divided-none n q i k e less odd =
    let m = k - suc i in
    let parts : k ≡ suc m + i = omega arith in
    divided-part n k (λ zero_rest.
    let d = n / 10 ^ k in
    let whole : q * 10 ^ i ≡ d * 10 ^ suc m * 10 ^ i = sym e ∙ whole_quotient n k zero_rest ∙ ap (λ j. d * 10 ^ j) parts ∙ ten_split d (suc m) i in
    let q_is : q ≡ d * 10 * 10 ^ m = cancelled q (d * 10 ^ suc m) i whole ∙ sym (ten_step d m) in
    let q_tens : q ≡ d * 10 ^ m * 10 = q_is ∙ mul_assoc d 10 (10 ^ m) ∙ ap (λ p. d * p) (mul_comm 10 (10 ^ m)) ∙ sym (mul_assoc d (10 ^ m) 10) in
    odd (ap (λ n. n % 10) q_tens ∙ mul-mod_left (d * 10 ^ m) 10))

pub divided-step : (n q i : ℕ) → n ≡ q * 10 ^ i → q % 10 ≡ 0 → n ≡ q / 10 * 10 ^ (i + 1)
divided-step n q i e h =
    let tens : q ≡ q / 10 * 10 = omega (arith, div-add-mod' q 10) in
    let one : suc i ≡ i + 1 = omega arith in
    e ∙ ap (λ m. m * 10 ^ i) tens ∙ ten_step (q / 10) i ∙ ap (λ j. q / 10 * 10 ^ j) one

mod_times : (c w t : ℕ) → 0 < w → 0 < t → c * t % (w * t) ≡ c % w * t
mod_times c w t pw pt =
    let whole : c ≡ c / w * w + c % w = sym (div-add-mod' c w) in
    let spread : c * t ≡ c / w * (w * t) + c % w * t = ap (λ n. n * t) whole ∙ add-mul (c / w * w) (c % w) t ∙ ap (λ n. n + c % w * t) (mul_assoc (c / w) w t) in
    ap (λ n. n % (w * t)) spread ∙ mul-add-mod_self_right (c / w) (w * t) (c % w * t) ∙ mod-eq_of_lt (mul-lt-mul_of_pos_right {m = c % w} {n = w} {k = t} (mod-lt c pw) pt)

test_times : (y t : ℕ) → 0 < t → eqb (y * t) 0 ≡ eqb y 0
test_times zero t h = eq-eqb (zero * t) 0 (zero-mul t)
test_times (suc y) t h = ne_eqb (suc y * t) 0 (λ e. absurd (omega (arith, e, le-mul_of_pos_right {m = t} (suc y) h))) ∙ sym (ne_eqb (suc y) 0 (λ e. absurd (omega arith)))

-- dividing what was multiplied
pub divided-times : (c z w : ℕ) → divided (c * 10 ^ z) (w + z) ≡ divided c w
divided-times c z w =
    let powers = pow-add 10 w z in
    let rest : c * 10 ^ z % 10 ^ (w + z) ≡ c % 10 ^ w * 10 ^ z = ap (λ p. c * 10 ^ z % p) powers ∙ mod_times c (10 ^ w) (10 ^ z) (ten_pos w) (ten_pos z) in
    ap₂ (λ b n. cond b (Some n) None) (ap (λ n. eqb n 0) rest ∙ test_times (c % 10 ^ w) (10 ^ z) (ten_pos z)) (ap (λ p. c * 10 ^ z / p) powers ∙ mul-div-mul_right {m = 10 ^ z} c (10 ^ w) (ten_pos z))

-- ---- the exact value of a coefficient and a power

-- the value in the range, where it is a number
abbrev pub fitted : ℕ → ℤ → Option ℕ
fitted n p = option_and_then in_range (scaled n p)

-- zeros at the end are a power
pub scaled-times : (c z : ℕ) (p : ℤ) → scaled (c * 10 ^ z) p ≡ scaled c (p +ℤ pos z)
scaled-times c z (pos k) =
    let sum : pos k +ℤ pos z ≡ pos (z + k) = omega (arith, ints) in
    ap Some (sym (ten_split c z k)) ∙ ap (scaled c) (sym sum)
scaled-times c z (negsuc k) = ⊎_elim within past (cases_lt z (suc k))
  where
    within : z < suc k → scaled (c * 10 ^ z) (negsuc k) ≡ scaled c (negsuc k +ℤ pos z)
    within h =
        let w = k - z in
        let parts : suc k ≡ suc w + z = omega arith in
        let sum : negsuc k +ℤ pos z ≡ negsuc w = omega (arith, ints) in
        ap (divided (c * 10 ^ z)) parts ∙ divided-times c z (suc w) ∙ ap (scaled c) (sym sum)

    past : suc k ≤ z → scaled (c * 10 ^ z) (negsuc k) ≡ scaled c (negsuc k +ℤ pos z)
    past h =
        let w = z - suc k in
        let parts : z ≡ w + suc k = omega arith in
        let sum : negsuc k +ℤ pos z ≡ pos w = omega (arith, ints) in
        divided-whole (c * 10 ^ z) (c * 10 ^ w) (suc k) (ap (λ j. c * 10 ^ j) parts ∙ ten_split c w (suc k)) ∙ ap (scaled c) (sym sum)

-- what is far from 0 is out of any range
pub fitted-far : (c : ℕ) (p : ℤ) → 0 < c → c < 10 ^ 38 → (pos 38 ≤ℤ p) ⊎ (p ≤ℤ negsuc 38) → fitted c p ≡ None
fitted-far c (pos k) h l (inl far) =
    let large : 10 ^ 38 ≤ 10 ^ k = pow-le-pow_right {n = 10} (omega arith) {i = 38} {j = k} (omega (arith, ints)) in
    in_range-large (c * 10 ^ k) (omega (arith, large, mul-le-mul_right {m = 1} {n = c} (10 ^ k) h))
fitted-far c (pos k) h l (inr far) = absurd (omega (arith, ints))
fitted-far c (negsuc k) h l (inl far) = absurd (omega (arith, ints))
fitted-far c (negsuc k) h l (inr far) =
    let large : 10 ^ 38 ≤ 10 ^ suc k = pow-le-pow_right {n = 10} (omega arith) {i = 38} {j = suc k} (omega (arith, ints)) in
    ap (option_and_then in_range) (divided-part c (suc k) (λ e. absurd (omega (arith, e, mod-eq_of_lt {n = c} {m = 10 ^ suc k} (omega arith)))))

pub fitted-zero : (p : ℤ) → fitted 0 p ≡ Some 0
fitted-zero (pos k) = ap in_range (zero-mul (10 ^ k)) ∙ in_range-small 0 (omega arith)
fitted-zero (negsuc k) = ap (option_and_then in_range) (divided-whole 0 0 (suc k) (sym (zero-mul (10 ^ suc k)))) ∙ in_range-small 0 (omega arith)

both_none : (b : Bool) (q : ℕ) → in_range q ≡ None → option_and_then in_range (cond b (Some q) None) ≡ None
both_none true q h = h
both_none false q h = refl

-- A value with more than 38 digits up to the last one that isn't 0 is no number, whatever the power.
pub fitted-lost : (c z r : ℕ) (p : ℤ) → r < 10 ^ z → 0 < r → 10 ^ 37 ≤ c → fitted (c * 10 ^ z + r) p ≡ None
fitted-lost c zero r p h k l = absurd (omega arith)
fitted-lost c (suc z) r (pos k) h g l =
    let v = c * 10 ^ suc z + r in
    in_range-large (v * 10 ^ k) (omega (arith, ten_grows v k, ten_fits c z))
fitted-lost c (suc z) r (negsuc k) h g l = ⊎_elim within past (cases_lt (suc k) (suc z))
  where
    within : suc k < suc z → fitted (c * 10 ^ suc z + r) (negsuc k) ≡ None
    within less =
        let v = c * 10 ^ suc z + r in
        let w = z - suc k in
        let parts : suc z ≡ suc w + suc k = omega arith in
        let below : c * 10 ^ suc w * 10 ^ suc k ≤ v = omega (arith, sym (ten_split c (suc w) (suc k)) ∙ ap (λ j. c * 10 ^ j) (sym parts)) in
        let quotient = (le-div_iff_mul-le {k = 10 ^ suc k} {x = c * 10 ^ suc w} {y = v} (ten_pos (suc k))).1 below in
        both_none _ (v / 10 ^ suc k) (in_range-large _ (omega (arith, quotient, ten_fits c w)))

    past : suc z ≤ suc k → fitted (c * 10 ^ suc z + r) (negsuc k) ≡ None
    past more =
        let v = c * 10 ^ suc z + r in
        let w = k - z in
        let parts : suc k ≡ w + suc z = omega arith in
        let rest : v % 10 ^ suc z ≡ r = mul-add-mod_self_right c (10 ^ suc z) r ∙ mod-eq_of_lt h in
        ap (option_and_then in_range) (divided-part v (suc k) (λ e.
        let whole : v ≡ v / 10 ^ suc k * 10 ^ w * 10 ^ suc z = whole_quotient v (suc k) e ∙ ap (λ j. v / 10 ^ suc k * 10 ^ j) parts ∙ ten_split (v / 10 ^ suc k) w (suc z) in
        let none : v % 10 ^ suc z ≡ 0 = ap (λ n. n % 10 ^ suc z) whole ∙ mul-mod_left (v / 10 ^ suc k * 10 ^ w) (10 ^ suc z) in
        absurd (omega (arith, rest, none))))
