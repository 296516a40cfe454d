-- Digits, one after another.
use Rattle.std.proofs.Common.{◌≡◌, ℕ, zero, suc, get_or, ◌≤◌, take, drop, Bool, true, false, ap₂, ◌+◌, ◌-◌, ◌*◌, ◌/◌, ◌%◌, ◌^◌, ◌<◌, ◌≢◌, List, [], ◌∷◌, ◌++◌, length, decimal, cond, refl, sym, ap, ◌∙◌, arith, append_assoc}
use Rattle.std.proofs.Math.Nat.{pow-succ', mod-lt, mul_comm, mul-div_cancel, div-one, div-div-eq-div-mul, div-lt_iff_lt-mul, mod-eq_of_lt}
use Rattle.std.proofs.Math.Arith.{mod-mul}
use Rattle.std.proofs.lemmas.Nat.{pow-add}
use Rattle.std.proofs.lemmas.Fmt.{decimal_digit, decimal_step_wide}
use Rattle.json_tree.specs.Decimals.{ten_pos}
use Rattle.std.proofs.lemmas.Bool.{eq-eqb, ne_eqb}
use Rattle.std.proofs.lemmas.List.{append-nil, take_all, drop_all}
use Rattle.std.proofs.lemmas.Bool.{le-ltb}
use Rattle.std.specs.List.{prefix_len, flat_map}
use Rattle.std.specs.Char.{digit_char}
use Rattle.json_text.specs.Unescaped.{is_plain}
use Rattle.json_text.proofs.StringSteps.{not_quote, not_backslash, no_control}
use Rattle.json_text.specs.declared.units.Fraction.{Fraction}
use Rattle.json_text.specs.Fraction.{IsFraction}
use Rattle.json_text.specs.Print.{escaped, padded, trimmed, with_point}

pub ten_positive : (p k : ℕ) → p ≡ 10 ^ k → 0 < p
ten_positive p k e = omega (arith, e, ten_pos k)

pub power_over : (k j one p : ℕ) → one ≡ 10 ^ k → p ≡ 10 ^ j → j ≤ k → one ≡ 10 ^ (k - j) * p
power_over k j one p e f h =
    let parts : k ≡ (k - j) + j = omega arith in
    e ∙ ap (λ i. 10 ^ i) parts ∙ pow-add 10 (k - j) j ∙ ap (λ q. 10 ^ (k - j) * q) (sym f)

pub one_over : (k j one p : ℕ) → one ≡ 10 ^ k → p ≡ 10 ^ j → j ≤ k → one / p ≡ 10 ^ (k - j)
one_over k j one p e f h = ap (λ o. o / p) (power_over k j one p e f h) ∙ mul-div_cancel (10 ^ (k - j)) (ten_positive p j f)

pub left_over : (k j one p n : ℕ) → one ≡ 10 ^ k → p ≡ 10 ^ j → j ≤ k → n < one → n / p < one / p
left_over k j one p n e f h small =
    let within : n < 10 ^ (k - j) * p = omega (arith, power_over k j one p e f h) in
    omega (arith, one_over k j one p e f h, (div-lt_iff_lt-mul {k = p} {x = n} {y = 10 ^ (k - j)} (ten_positive p j f)).1 within)

pub trimmed_next : (k n : ℕ) → 0 < k → n % 10 ≡ 0 → trimmed k n ≡ trimmed (k - 1) (n / 10)
unfolding trimmed
trimmed_next zero n h e = absurd (omega arith)
trimmed_next (suc k) n h e = let p : suc k - 1 ≡ k = omega arith in ap (λ b. cond b (trimmed k (n / 10)) (padded (suc k) n)) (eq-eqb (n % 10) 0 e) ∙ ap (λ j. trimmed j (n / 10)) (sym p)

-- without the zeros that it ends with
pub trimmed_over : (j k n p : ℕ) → p ≡ 10 ^ j → j ≤ k → n % p ≡ 0 → trimmed (k - j) (n / p) ≡ trimmed k n
trimmed_over zero k n p e h z =
    let all : k - 0 ≡ k = omega arith in
    ap₂ trimmed all (ap (λ p. n / p) e ∙ div-one n)
trimmed_over (suc j) k n p e h z =
    let tens : p ≡ 10 * 10 ^ j = e ∙ pow-succ' 10 j in
    let low : n % p ≡ (n / 10 % 10 ^ j) * 10 + n % 10 = ap (λ p. n % p) (tens ∙ mul_comm 10 (10 ^ j)) ∙ mod-mul n {m = 10 ^ j} {c = 10} (ten_pos j) (omega arith) in
    let last : n % 10 ≡ 0 = omega (arith, low, z) in
    let others : n / 10 % 10 ^ j ≡ 0 = omega (arith, low, z) in
    let fewer : k - suc j ≡ k - 1 - j = omega arith in
    ap₂ trimmed fewer (ap (λ p. n / p) tens ∙ sym (div-div-eq-div-mul n 10 (10 ^ j))) ∙ trimmed_over j (k - 1) (n / 10) (10 ^ j) refl (omega arith) others ∙ sym (trimmed_next k n (omega arith) last)

pub trimmed_done : (k n : ℕ) → 0 < k → n % 10 ≢ 0 → trimmed k n ≡ padded k n
unfolding trimmed
trimmed_done zero n h e = absurd (omega arith)
trimmed_done (suc k) n h e = ap (λ b. cond b (trimmed k (n / 10)) (padded (suc k) n)) (ne_eqb (n % 10) 0 e)

padded_none : (n : ℕ) → padded 0 n ≡ []
unfolding padded
padded_none n = refl

ten_zero : 10 ^ 0 ≡ 1
ten_zero = refl

pub trimmed_none : (n : ℕ) → trimmed 0 n ≡ []
unfolding trimmed
trimmed_none n = refl

-- the last digit stands behind the others
pub padded_last : (k n : ℕ) → n < 10 ^ suc k → padded (suc k) n ≡ padded k (n / 10) ++ (48 + n % 10) ∷ []
unfolding padded
padded_last zero n h =
    let one : 10 ^ 1 ≡ 10 = refl in
    let digit : n / 10 ^ 0 ≡ n % 10 = div-one n ∙ sym (mod-eq_of_lt (omega (arith, h, one))) in
    ap (λ d. (48 + d) ∷ []) digit
padded_last (suc k) n h =
    let m = n % 10 ^ suc k in
    let tens = pow-succ' 10 k in
    let low : m ≡ (n / 10 % 10 ^ k) * 10 + n % 10 = ap (λ p. n % p) (tens ∙ mul_comm 10 (10 ^ k)) ∙ mod-mul n {m = 10 ^ k} {c = 10} (ten_pos k) (omega arith) in
    let others : m / 10 ≡ n / 10 % 10 ^ k = omega (arith, low) in
    let last : m % 10 ≡ n % 10 = omega (arith, low) in
    let front : n / 10 ^ suc k ≡ n / 10 / 10 ^ k = ap (λ p. n / p) tens ∙ sym (div-div-eq-div-mul n 10 (10 ^ k)) in
    ap₂ (λ d l. (48 + d) ∷ l) front (padded_last k m (mod-lt n (ten_pos (suc k))) ∙ ap₂ (λ o d. padded k o ++ (48 + d) ∷ []) others last)

-- a 1 in front keeps the zeros
pub decimal_padded : (k n : ℕ) → n < 10 ^ k → 10 ^ k + n < 10 ^ 64 → decimal (10 ^ k + n) ≡ 49 ∷ padded k n
decimal_padded zero n h small =
    let none : 10 ^ 0 + n ≡ 1 = omega (arith, h, ten_zero) in
    ap decimal none ∙ decimal_digit 1 (omega arith) ∙ sym (ap (λ l. 49 ∷ l) (padded_none n))
decimal_padded (suc k) n h small =
    let tens = pow-succ' 10 k in
    let whole = 10 ^ suc k + n in
    let others : whole / 10 ≡ 10 ^ k + n / 10 = omega (arith, tens) in
    let last : whole % 10 ≡ n % 10 = omega (arith, tens) in
    let below : n / 10 < 10 ^ k = omega (arith, h, tens) in
    let many : 10 ≤ whole = omega (arith, tens, ten_pos k) in
    let fits : 10 ^ k + n / 10 < 10 ^ 64 = omega (arith, small, tens) in
    decimal_step_wide whole many small ∙ ap₂ (λ o d. decimal o ++ (48 + d) ∷ []) others last ∙ ap (λ l. l ++ (48 + n % 10) ∷ []) (decimal_padded k (n / 10) below fits)
    ∙ ap (λ l. 49 ∷ l) (sym (padded_last k n h))

pub one_first : (f : Fraction) → IsFraction f → (text : List ℕ) → text ≡ decimal (f.one + f.left) → text ≡ 49 ∷ padded f.digits f.left
one_first f is text e =
    let below : f.left < 10 ^ f.digits = omega (arith, is.0, is.1) in
    let fits : 10 ^ f.digits + f.left < 10 ^ 64 = omega (arith, is.0, is.1, is.2) in
    e ∙ ap (λ o. decimal (o + f.left)) is.0 ∙ decimal_padded f.digits f.left below fits

pub behind_first : (text ds : List ℕ) → text ≡ 49 ∷ ds → take (length text - 1) (drop 1 text) ≡ ds
behind_first text ds e = ap (λ l. take (length l - 1) (drop 1 l)) e ∙ take_all (length (49 ∷ ds) - 1) ds (omega arith)

pub padded_point : (k n : ℕ) → 0 < k → with_point (padded k n) ≡ 46 ∷ padded k n
unfolding padded
padded_point zero n h = absurd (omega arith)
padded_point (suc k) n h = refl

trimmed_zero : (k : ℕ) → trimmed k 0 ≡ []
unfolding trimmed
trimmed_zero zero = refl
trimmed_zero (suc k) = trimmed_zero k

pub zero_padded : (n m : ℕ) → n ≡ 0 → padded 0 m ≡ trimmed 18 n
zero_padded n m e = padded_none m ∙ sym (trimmed_zero 18) ∙ ap (λ n. trimmed 18 n) (sym e)

pub done_padded : (k n : ℕ) → ((0 < k) × (n % 10 ≡ 0) → ⊥) → padded k n ≡ trimmed k n
done_padded zero n h = padded_none n ∙ sym (trimmed_none n)
done_padded (suc k) n h = sym (trimmed_done (suc k) n (omega arith) (λ e. h (omega arith, e)))

-- a fraction without digits has no point
pub no_point : (k n : ℕ) (ds : List ℕ) → k ≡ 0 → padded k n ≡ ds → with_point ds ≡ []
no_point k n ds e h = ap with_point (sym h ∙ ap (λ k. padded k n) e ∙ padded_none n)

pub some_point : (k n : ℕ) (ds : List ℕ) → 0 < k → padded k n ≡ ds → with_point ds ≡ 46 ∷ padded k n
some_point k n ds h e = ap with_point (sym e) ∙ padded_point k n h

pub length-padded : (k n : ℕ) → length (padded k n) ≡ k
unfolding padded
length-padded zero n = refl
length-padded (suc k) n = omega (arith, length-padded k (n % 10 ^ k))

pub length-no_point : (k n : ℕ) (ds : List ℕ) → k ≡ 0 → padded k n ≡ ds → length (with_point ds) ≡ 0
length-no_point k n ds e t = ap length (no_point k n ds e t)

pub length-some_point : (k n : ℕ) (ds : List ℕ) → 0 < k → padded k n ≡ ds → length (with_point ds) ≡ k + 1
length-some_point k n ds h e = omega (arith, length-padded k n, ap length (some_point k n ds h e))

-- ---- a string's content, by runs

plain_stays : (x : ℕ) → is_plain x ≡ true → escaped x ≡ x ∷ []
unfolding escaped
plain_stays x h =
    let large : 32 ≤ x = no_control x h in
    λ i. cond (ne_eqb x 34 (not_quote x h) i) (92 ∷ 34 ∷ []) (cond (ne_eqb x 92 (not_backslash x h) i) (92 ∷ 92 ∷ [])
    (cond (ne_eqb x 8 (λ e. absurd (omega arith)) i) (92 ∷ 98 ∷ []) (cond (ne_eqb x 9 (λ e. absurd (omega arith)) i) (92 ∷ 116 ∷ [])
    (cond (ne_eqb x 10 (λ e. absurd (omega arith)) i) (92 ∷ 110 ∷ []) (cond (ne_eqb x 12 (λ e. absurd (omega arith)) i) (92 ∷ 102 ∷ [])
    (cond (ne_eqb x 13 (λ e. absurd (omega arith)) i) (92 ∷ 114 ∷ []) (cond (le-ltb x 32 large i) (92 ∷ 117 ∷ 48 ∷ 48 ∷ digit_char (x / 16) ∷ digit_char (x % 16) ∷ []) (x ∷ []))))))))

content_step : (x : ℕ) (xs : List ℕ) (n : ℕ) (b : Bool) → is_plain x ≡ b → flat_map escaped xs ≡ take n xs ++ flat_map escaped (drop n xs)
    → flat_map escaped (x ∷ xs) ≡ take (cond b (1 + n) 0) (x ∷ xs) ++ flat_map escaped (drop (cond b (1 + n) 0) (x ∷ xs))
content_step x xs n true e h =
    let next : suc n ≡ 1 + n = omega arith in
    ap₂ (λ a b. a ++ b) (plain_stays x e) h ∙ ap (λ k. take k (x ∷ xs) ++ flat_map escaped (drop k (x ∷ xs))) next
content_step x xs n false e h = refl

content_run : (xs : List ℕ) → flat_map escaped xs ≡ take (prefix_len is_plain xs) xs ++ flat_map escaped (drop (prefix_len is_plain xs) xs)
content_run [] = refl
content_run (x ∷ xs) = content_step x xs (prefix_len is_plain xs) (is_plain x) refl (content_run xs)

pub content_plain : (xs : List ℕ) → length xs ≤ prefix_len is_plain xs → flat_map escaped xs ≡ xs
content_plain xs h =
    let n = prefix_len is_plain xs in
    content_run xs ∙ ap₂ (λ a b. a ++ flat_map escaped b) (take_all n xs h) (drop_all n xs h) ∙ append-nil xs

pub content_ends : (xs front from old out whole : List ℕ) → front ≡ take (prefix_len is_plain xs) xs → from ≡ drop (prefix_len is_plain xs) xs → from ≡ [] → old ++ flat_map escaped xs ≡ whole → out ≡ old ++ front → out ≡ whole
content_ends xs front from old out whole f r none e p =
    p ∙ ap (λ l. old ++ l) (f ∙ sym (append-nil _) ∙ ap (λ l. take (prefix_len is_plain xs) xs ++ flat_map escaped l) (sym none ∙ r) ∙ sym (content_run xs)) ∙ e

pub content_more : (xs front from rest old mid out whole : List ℕ) (b : ℕ) → front ≡ take (prefix_len is_plain xs) xs → from ≡ drop (prefix_len is_plain xs) xs → from ≡ b ∷ rest → old ++ flat_map escaped xs ≡ whole
    → mid ≡ old ++ front → out ≡ mid ++ escaped b → out ++ flat_map escaped rest ≡ whole
content_more xs front from rest old mid out whole b f r some e p q =
    let is : flat_map escaped xs ≡ front ++ (escaped b ++ flat_map escaped rest) = content_run xs ∙ ap₂ (λ a l. a ++ flat_map escaped l) (sym f) (sym r ∙ some) in
    ap (λ l. l ++ flat_map escaped rest) (q ∙ ap (λ l. l ++ escaped b) p) ∙ append_assoc (old ++ front) (escaped b) (flat_map escaped rest)
    ∙ append_assoc old front (escaped b ++ flat_map escaped rest) ∙ ap (λ l. old ++ l) (sym is) ∙ e

pub split_first : (xs : List ℕ) → 1 ≤ length xs → xs ≡ get_or xs 0 0 ∷ take (length xs - 1) (drop 1 xs)
split_first [] h = absurd (omega arith)
split_first (x ∷ xs) h = ap (λ l. x ∷ l) (sym (take_all (suc (length xs) - 1) xs (omega arith)))

pub nothing_left : (xs : List ℕ) → length xs < 1 → xs ≡ []
nothing_left [] h = refl
nothing_left (x ∷ xs) h = absurd (omega arith)
