-- What a product that isn't refused is, and when one is refused.
use Rattle.std.proofs.Common.{◌≡◌, ◌≢◌, ℕ, ℤ, pos, negsuc, neg_ℤ, ◌*ℤ◌, zero, suc, ◌*◌, ◌/◌, ◌%◌, ◌^◌, ◌<◌, ◌≤◌, Bool, true, false, cond, eqb, ltb, Option, Some, None, option_map, option_and_then, nat_abs, refl, sym, ap, ◌∙◌, arith, ◌⊎◌, inl, inr, ⊎_elim}
use Rattle.std.proofs.Math.Nat.{zero-mul, div-add-mod'}
use Rattle.std.proofs.lemmas.Bool.{lt-ltb, cases_lt}
use borrow.Author.Tests.{ltb-true, eqb-true}
use Rattle.json_tree.specs.Num.{IsNumber, in_range, coefficient_of, magnitude_product, with_signs, product_of}
use Rattle.json_tree.specs.Decimals.{divided-whole, fitted, in_range-small}

-- ---- signs

neg_times : (m k : ℕ) → neg_ℤ (pos m) *ℤ pos k ≡ neg_ℤ (pos (m * k))
neg_times zero k = ap pos (zero-mul k) ∙ ap (λ n. neg_ℤ (pos n)) (sym (zero-mul k))
neg_times (suc m) k = refl

signed_times : (a b : ℤ) (m k : ℕ) → m * k ≡ nat_abs a * nat_abs b → with_signs a b m *ℤ pos k ≡ a *ℤ b
signed_times (pos a) (pos b) m k e = ap pos e
signed_times (pos a) (negsuc b) m k e = neg_times m k ∙ ap (λ n. neg_ℤ (pos n)) e
signed_times (negsuc a) (pos b) m k e = neg_times m k ∙ ap (λ n. neg_ℤ (pos n)) e
signed_times (negsuc a) (negsuc b) m k e = ap pos e

abs_neg : (m : ℕ) → nat_abs (neg_ℤ (pos m)) ≡ m
abs_neg zero = refl
abs_neg (suc m) = refl

abs_signed : (a b : ℤ) (m : ℕ) → nat_abs (with_signs a b m) ≡ m
abs_signed (pos a) (pos b) m = refl
abs_signed (pos a) (negsuc b) m = abs_neg m
abs_signed (negsuc a) (pos b) m = abs_neg m
abs_signed (negsuc a) (negsuc b) m = refl

abs_times : (a b : ℤ) → nat_abs (a *ℤ b) ≡ nat_abs a * nat_abs b
abs_times (pos a) (pos b) = refl
abs_times (pos a) (negsuc b) = abs_neg (a * suc b)
abs_times (negsuc a) (pos b) = abs_neg (suc a * b)
abs_times (negsuc a) (negsuc b) = refl

-- ---- magnitudes

abbrev guarded : Bool → Option ℕ → Option ℕ
guarded q o = cond q o None

passed : (q : Bool) (o : Option ℕ) (m : ℕ) → guarded q o ≡ Some m → (q ≡ true) × (o ≡ Some m)
passed true o m e = (refl, e)
passed false o m e = absurd (Prim.cc e)

some_is : (x y : ℕ) → Some x ≡ Some y → x ≡ y
some_is x y e = Prim.cc e

-- a quotient in the range, where the division leaves no rest
fitted_is : (q : Bool) (n d m : ℕ) → option_and_then in_range (guarded q (Some (n / d))) ≡ Some m → (q ≡ true) × (n / d < 10 ^ 38) × (n / d ≡ m)
fitted_is false n d m e = absurd (Prim.cc e)
fitted_is true n d m e =
    let parts = passed (ltb (n / d) (10 ^ 38)) (Some (n / d)) m e in
    (refl, ltb-true (n / d) (10 ^ 38) parts.0, some_is (n / d) m parts.1)

quotient : (n d m : ℕ) → n % d ≡ 0 → n / d ≡ m → m * d ≡ n
quotient n d m rest e = ap (λ x. x * d) (sym e) ∙ omega (arith, div-add-mod' n d, rest)

-- the parts of a product of magnitudes
pub magnitude_is : (a b m : ℕ) → magnitude_product a b ≡ Some m → (coefficient_of a * coefficient_of b < 10 ^ 38) × (m < 10 ^ 38) × (m * 10 ^ 18 ≡ a * b)
unfolding magnitude_product
magnitude_is a b m e =
    let first = passed (ltb (coefficient_of a * coefficient_of b) (10 ^ 38)) (fitted (a * b) (negsuc 17)) m e in
    let second = fitted_is (eqb (a * b % 10 ^ 18) 0) (a * b) (10 ^ 18) m first.1 in
    (ltb-true (coefficient_of a * coefficient_of b) (10 ^ 38) first.0, omega (arith, second.1, second.2), quotient (a * b) (10 ^ 18) m (eqb-true (a * b % 10 ^ 18) 0 second.0) second.2)

taken : (p : ℤ → ℕ → ℤ) (a n : ℤ) (o : Option ℕ) → option_map (p a) o ≡ Some n → (m : ℕ) × (o ≡ Some m) × (p a m ≡ n)
taken p a n None e = absurd (Prim.cc e)
taken p a n (Some m) e = (m, refl, Prim.cc e)

pub product_is : (a b n : ℤ) → product_of a b ≡ Some n → (coefficient_of (nat_abs a) * coefficient_of (nat_abs b) < 10 ^ 38) × IsNumber n × (n *ℤ pos (10 ^ 18) ≡ a *ℤ b)
product_is a b n e =
    let found = taken (λ z m. with_signs z b m) a n (magnitude_product (nat_abs a) (nat_abs b)) e in
    let parts = magnitude_is (nat_abs a) (nat_abs b) found.0 found.1 in
    let size : nat_abs n ≡ found.0 = ap nat_abs (sym found.2) ∙ abs_signed a b found.0 in
    (parts.0, omega (arith, size, parts.1), ap (λ z. z *ℤ pos (10 ^ 18)) (sym found.2) ∙ signed_times a b found.0 (10 ^ 18) parts.2)

kept_none : (f : ℕ → ℤ) (o : Option ℕ) → option_map f o ≡ None → o ≡ None
kept_none f None e = refl
kept_none f (Some m) e = absurd (Prim.cc e)

pub magnitude_none : (a b m : ℕ) → magnitude_product a b ≡ None → coefficient_of a * coefficient_of b < 10 ^ 38 → m < 10 ^ 38 → m * 10 ^ 18 ≢ a * b
unfolding magnitude_product
magnitude_none a b m e small h same =
    let there : magnitude_product a b ≡ Some m
    = ap (λ q. guarded q (fitted (a * b) (negsuc 17))) (lt-ltb (coefficient_of a * coefficient_of b) (10 ^ 38) small)
    ∙ ap (option_and_then in_range) (divided-whole (a * b) m 18 (sym same)) ∙ in_range-small m h in
    Prim.cc (sym e ∙ there)

pub product_refused : (a b : ℤ) → product_of a b ≡ None → (10 ^ 38 ≤ coefficient_of (nat_abs a) * coefficient_of (nat_abs b)) ⊎ ((n : ℤ) → IsNumber n → n *ℤ pos (10 ^ 18) ≢ a *ℤ b)
product_refused a b e =
    ⊎_elim
    (λ small. inr (λ n h same. magnitude_none (nat_abs a) (nat_abs b) (nat_abs n) (kept_none (with_signs a b) (magnitude_product (nat_abs a) (nat_abs b)) e) small h (sym (abs_times n (pos (10 ^ 18))) ∙ ap nat_abs same ∙ abs_times a b)))
    (λ large. inl large) (cases_lt (coefficient_of (nat_abs a) * coefficient_of (nat_abs b)) (10 ^ 38))
