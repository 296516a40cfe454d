-- Scaled magnitudes near and far.
use Rattle.std.proofs.Common.{◌≡◌, ◌≢◌, ℕ, ℤ, pos, negsuc, ◌+ℤ◌, zero, suc, ◌+◌, ◌*◌, ◌/◌, ◌%◌, ◌^◌, ◌<◌, ◌≤◌, Bool, true, false, cond, eqb, Option, Some, None, option_and_then, IfSome, refl, sym, ap, ◌∙◌, arith, ◌≤ℤ◌, lit≤, ap₂, ◌⊎◌, inl, inr, ⊎_elim, ltb}
use Rattle.std.proofs.Math.Nat.{mul_assoc, mul_comm, mul-mod_left, mul-div_cancel, mod-eq_of_lt, pow-le-pow_right, div-lt_iff_lt-mul, mul-le-mul_right}
use Rattle.std.proofs.Math.Pow.{pow-add}
use Rattle.std.proofs.lemmas.Bool.{lt-ltb, le-ltb, eq-eqb, cases_lt}
use Rattle.std.proofs.lemmas.Int.{ints}
use Rattle.json_tree.specs.Num.{in_range, scaled, zeros_in, coefficient_of, magnitude_product}
use Rattle.json_tree.specs.Decimals.{divided, divided-part, fitted, in_range-small, in_range-large, ten_grows, ten_pos, ten_fits, divided-none, scaled-times}

pub fitted-high : (c : ℕ) (p : ℤ) → 0 < c → pos 38 ≤ℤ p → fitted c p ≡ None
fitted-high c (pos k) h far =
    let large : 10 ^ 38 ≤ 10 ^ k = pow-le-pow_right {n = 10} (omega arith) {i = 38} {j = k} (omega (arith, ints)) in
    in_range-large (c * 10 ^ k) (omega (arith, large, mul-le-mul_right {m = 1} {n = c} (10 ^ k) h))
fitted-high c (negsuc k) h far = absurd (omega (arith, ints))

pub fitted-low : (c : ℕ) (p : ℤ) → 0 < c → c < 10 ^ 39 → p ≤ℤ negsuc 38 → fitted c p ≡ None
fitted-low c (pos k) h l far = absurd (omega (arith, ints))
fitted-low c (negsuc k) h l far =
    let large : 10 ^ 39 ≤ 10 ^ suc k = pow-le-pow_right {n = 10} (omega arith) {i = 39} {j = suc k} (omega (arith, ints)) in
    ap (option_and_then in_range) (divided-part c (suc k) (λ e. absurd (omega (arith, e, mod-eq_of_lt {n = c} {m = 10 ^ suc k} (omega arith)))))

-- what is out of the range stays there when it grows
pub fitted-large : (c : ℕ) (p : ℤ) → pos 0 ≤ℤ p → 10 ^ 38 ≤ c → fitted c p ≡ None
fitted-large c (pos k) h l = in_range-large (c * 10 ^ k) (omega (arith, l, ten_grows c k))
fitted-large c (negsuc k) h l = absurd (omega (arith, ints))

tenth : (c k : ℕ) → c < 10 ^ 39 → c / 10 ^ suc k < 10 ^ 38
tenth c k l =
    (div-lt_iff_lt-mul {k = 10 ^ suc k} {x = c} {y = 10 ^ 38} (ten_pos (suc k))).1
    (let grown : 10 ^ 38 * 10 ≤ 10 ^ 38 * 10 ^ suc k = ten_fits (10 ^ 38) k in omega (arith, l, grown))

kept : (b : Bool) (q : ℕ) → q < 10 ^ 38 → (cond b (Some q) None ≡ option_and_then in_range (cond b (Some q) None)) × IfSome (cond b (Some q) None) (λ n. n < 10 ^ 38)
kept true q h = (sym (in_range-small q h), h)
kept false q h = (refl, tt)

pub fitted-over : (c k : ℕ) (p : ℤ) (r : Option ℕ) → r ≡ divided c k → p +ℤ pos k ≡ pos 0 → 0 < k → c < 10 ^ 39 → (r ≡ fitted c p) × IfSome r (λ n. n < 10 ^ 38)
fitted-over c zero p r e s h l = absurd (omega arith)
fitted-over c (suc k) (pos j) r e s h l = absurd (omega (arith, ints))
fitted-over c (suc k) (negsuc j) r e s h l =
    let same : j ≡ k = omega (arith, ints) in
    let both = kept (eqb (c % 10 ^ suc k) 0) (c / 10 ^ suc k) (tenth c k l) in
    (e ∙ both.0 ∙ ap (λ i. fitted c (negsuc i)) (sym same), rw e both.1)

pub below_wide : (c : ℕ) → c < 2 ^ 128 → c < 10 ^ 39
below_wide c h = let wide : 2 ^ 128 ≤ 10 ^ 39 = lit≤ tt in omega arith

-- ---- coefficients

shut : (b : Bool) (q : ℕ) → cond b (Some q) None ≡ None → b ≡ false
shut true q e = absurd (Prim.cc e)
shut false q e = refl

all_taken : (k n left taken : ℕ) → left * 10 ^ taken ≡ n → taken ≡ suc k → zeros_in (suc k) n ≡ taken
all_taken k n left taken e whole =
    let all : n % 10 ^ suc k ≡ 0 = ap (λ m. m % 10 ^ suc k) (sym e ∙ ap (λ j. left * 10 ^ j) whole) ∙ mul-mod_left left (10 ^ suc k) in
    ap (λ b. cond b (suc k) (zeros_in k n)) (eq-eqb _ 0 all) ∙ sym whole

fewer_taken : (k n left taken : ℕ) → left * 10 ^ taken ≡ n → taken < suc k → left % 10 ≢ 0 → zeros_in (suc k) n ≡ zeros_in k n
fewer_taken k n left taken e less odd = ap (λ b. cond b (suc k) (zeros_in k n)) (shut _ (n / 10 ^ suc k) (divided-none n left taken (suc k) (sym e) less odd))

pub zeros_in-is : (k n left taken : ℕ) → left * 10 ^ taken ≡ n → taken ≤ k → (taken ≡ k) ⊎ (left % 10 ≢ 0) → zeros_in k n ≡ taken
zeros_in-is zero n left taken e h o = omega arith
zeros_in-is (suc k) n left taken e h (inl whole) = all_taken k n left taken e whole
zeros_in-is (suc k) n left taken e h (inr odd) =
    ⊎_elim (λ less. fewer_taken k n left taken e less odd ∙ zeros_in-is k n left taken e (omega arith) (inr odd)) (λ more. all_taken k n left taken e (omega arith)) (cases_lt taken (suc k))

taken_off : (k n left taken : ℕ) → left * 10 ^ taken ≡ n → taken ≤ k → (taken ≡ k) ⊎ (left % 10 ≢ 0) → n / 10 ^ zeros_in k n ≡ left
taken_off k n left taken e h o = ap (λ t. n / 10 ^ t) (zeros_in-is k n left taken e h o) ∙ ap (λ m. m / 10 ^ taken) (sym e) ∙ mul-div_cancel left (ten_pos taken)

pub coefficient_is : (n left taken : ℕ) → left * 10 ^ taken ≡ n → taken ≤ 18 → (taken ≡ 18) ⊎ (left % 10 ≢ 0) → coefficient_of n ≡ left
unfolding coefficient_of
coefficient_is n left taken e h o = taken_off 18 n left taken e h o

-- ---- products

parts_product : (c s d t : ℕ) → c * 10 ^ s * (d * 10 ^ t) ≡ c * d * 10 ^ (s + t)
parts_product c s d t =
    mul_assoc c (10 ^ s) (d * 10 ^ t) ∙ ap (λ n. c * n) (sym (mul_assoc (10 ^ s) d (10 ^ t)) ∙ ap (λ n. n * 10 ^ t) (mul_comm (10 ^ s) d) ∙ mul_assoc d (10 ^ s) (10 ^ t))
    ∙ sym (mul_assoc c d (10 ^ s * 10 ^ t)) ∙ ap (λ n. c * d * n) (sym (pow-add 10 s t))

pub product_small : (a b c s d t : ℕ) (p : ℤ) → coefficient_of a ≡ c → coefficient_of b ≡ d → c * 10 ^ s ≡ a → d * 10 ^ t ≡ b → c * d < 10 ^ 38 → p ≡ negsuc 17 +ℤ pos (s + t)
    → magnitude_product a b ≡ fitted (c * d) p
unfolding magnitude_product
product_small a b c s d t p ca cb ea eb h e =
    ap (λ q. cond q (fitted (a * b) (negsuc 17)) None) (ap₂ (λ x y. ltb (x * y) (10 ^ 38)) ca cb ∙ lt-ltb (c * d) (10 ^ 38) h)
    ∙ ap (λ n. fitted n (negsuc 17)) (ap₂ (λ x y. x * y) (sym ea) (sym eb) ∙ parts_product c s d t) ∙ ap (option_and_then in_range) (scaled-times (c * d) (s + t) (negsuc 17) ∙ ap (scaled (c * d)) (sym e))

pub product_large : (a b c d : ℕ) → coefficient_of a ≡ c → coefficient_of b ≡ d → 10 ^ 38 ≤ c * d → magnitude_product a b ≡ None
unfolding magnitude_product
product_large a b c d ca cb h = ap (λ q. cond q (fitted (a * b) (negsuc 17)) None) (ap₂ (λ x y. ltb (x * y) (10 ^ 38)) ca cb ∙ le-ltb (c * d) (10 ^ 38) h)

-- what `split_zeros` gives of two magnitudes
pub product_scaled : (a b c s d t m : ℕ) (p : ℤ) (r : Option ℕ) → coefficient_of a ≡ c → coefficient_of b ≡ d → c * 10 ^ s ≡ a → d * 10 ^ t ≡ b → m ≡ c * d → m < 10 ^ 38 → p ≡ negsuc 17 +ℤ pos (s + t)
    → r ≡ fitted m p → r ≡ magnitude_product a b
product_scaled a b c s d t m p r ca cb ea eb em h e q = q ∙ ap (λ n. fitted n p) em ∙ sym (product_small a b c s d t p ca cb ea eb (omega arith) e)
