-- Numbers, as they are written.
use Rattle.std.proofs.Common.{◌≡◌, ◌≢◌, ℕ, zero, suc, ℤ, pos, negsuc, neg_ℤ, ◌+ℤ◌, ◌-ℤ◌, ◌+◌, ◌-◌, ◌*◌, ◌/◌, ◌%◌, ◌^◌, ◌<◌, ◌≤◌, List, [], ◌∷◌, ◌++◌, length, take, drop, Bool, true, false, cond, ◌&&◌, ◌||◌, not, eqb, decimal, Some, option_map, option_and_then, ◌⊎◌, inl, inr, refl, sym, ap, ap₂, ◌∙◌, arith, subst}
use Rattle.std.proofs.lemmas.List.{append-nil}
use Rattle.std.proofs.lemmas.List.Folds.{list_all-append}
use Rattle.std.proofs.Math.Seq.{take-append_seam, drop-append_seam}
use Rattle.std.proofs.Math.Nat.{pow-succ', mul_assoc, mul_comm, add-mul, div-lt_iff_lt-mul, div-add-mod', mod-lt}
use Rattle.std.proofs.lemmas.Bool.{true≢false, ne_eqb, eq-eqb, and_parts, cases_eq}
use Rattle.std.proofs.lemmas.Bool.Decides.{nat_tests}
use Rattle.std.proofs.lemmas.Int.{ints}
use Rattle.std.proofs.lemmas.Fmt.{decimal_by_steps_wide, decimal_is_IsNumeral_wide}
use Rattle.std.specs.Prelude.{⊤}
use Rattle.std.specs.List.{prefix_len, list_all}
use Rattle.std.specs.Char.{is_ascii_digit, digit_value}
use Rattle.std.specs.Str.Parse.{digits_value, digits_value_after}
use Rattle.json_tree.specs.Num.{IsNumber}
use Rattle.json_text.specs.Token.{number, begin_object, end_object, begin_array, end_array, name_separator, value_separator, malformed}
use Rattle.json_text.specs.Text.{plain, string_at}
use Rattle.json_text.specs.Numeral.{is_numeral_byte, digits, after_digits, is_whole, if_some, fraction_at, decimal_of, unsigned, numeral}
use Rattle.json_tree.specs.Num.{scaled, in_range, units_of}
use Rattle.json_text.specs.Lex.{is_blank, is_letter, string_token, number_token, numeral_at, word_at, token_at}
use Rattle.json_text.specs.Print.{padded, trimmed, with_point, magnitude_text, number_text}
use Rattle.json_tree.specs.Decimals.{ten_pos, in_range-small}
use Rattle.json_text.proofs.NumeralValues.{some_parts}
use Rattle.json_tree.specs.DigitLists.{digits_append}
use Rattle.json_text.proofs.PrintSteps.{length-padded}

-- ---- runs

abbrev pub RunEnds : (ℕ → Bool) → List ℕ → Type 0
RunEnds p [] = ⊤
RunEnds p (x ∷ xs) = p x ≡ false

pub run_stops : (p : ℕ → Bool) (w rest : List ℕ) → list_all p w ≡ true → RunEnds p rest → prefix_len p (w ++ rest) ≡ length w
run_stops p [] [] a s = refl
run_stops p [] (x ∷ xs) a s = ap (λ b. cond b (1 + prefix_len p xs) 0) s
run_stops p (x ∷ w) rest a s =
    let q = and_parts (p x) (list_all p w) a in
    let one : 1 + length w ≡ suc (length w) = omega arith in
    ap₂ (λ b n. cond b (1 + n) 0) q.0 (run_stops p w rest q.1 s) ∙ one

pub run_front : (p : ℕ → Bool) (w rest : List ℕ) → list_all p w ≡ true → RunEnds p rest → take (prefix_len p (w ++ rest)) (w ++ rest) ≡ w
run_front p w rest a s = ap (λ n. take n (w ++ rest)) (run_stops p w rest a s) ∙ take-append_seam w rest

pub run_rest : (p : ℕ → Bool) (w rest : List ℕ) → list_all p w ≡ true → RunEnds p rest → drop (prefix_len p (w ++ rest)) (w ++ rest) ≡ rest
run_rest p w rest a s = ap (λ n. drop n (w ++ rest)) (run_stops p w rest a s) ∙ drop-append_seam w rest

pub all_both : (p : ℕ → Bool) (xs ys : List ℕ) → list_all p xs ≡ true → list_all p ys ≡ true → list_all p (xs ++ ys) ≡ true
all_both p xs ys a b = list_all-append p xs ys ∙ ap₂ (λ x y. x && y) a b

pub all_more : (p q : ℕ → Bool) (xs : List ℕ) → ((x : ℕ) → p x ≡ true → q x ≡ true) → list_all p xs ≡ true → list_all q xs ≡ true
all_more p q [] h a = refl
all_more p q (x ∷ xs) h a = let r = and_parts (p x) (list_all p xs) a in ap₂ (λ x y. x && y) (h x r.0) (all_more p q xs h r.1)

-- ---- digits

digit_is : (d : ℕ) → d < 10 → is_ascii_digit (48 + d) ≡ true
digit_is d h = grind (arith, nat_tests)

value_is : (d : ℕ) → d < 10 → digit_value (48 + d) ≡ d
value_is d h = grind (arith, nat_tests)

pub digit_in_numeral : (x : ℕ) → is_ascii_digit x ≡ true → is_numeral_byte x ≡ true
digit_in_numeral x h = grind (arith, nat_tests)

-- the digits of a whole number have no zero in front, but for zero itself
pub record Whole (m : ℕ) (ds : List ℕ) : Type 0 where
  pub first : ℕ
  pub more : List ℕ
  pub is : ds ≡ first ∷ more
  digits : list_all is_ascii_digit ds ≡ true
  nonzero : 0 < m → first ≢ 48
  alone : m < 10 → more ≡ []

whole_decimal : (n : ℕ) → n < 10 ^ 64 → Whole n (decimal n)
whole_decimal = decimal_by_steps_wide Whole one more
  where
    one : (m : ℕ) → m < 10 → Whole m ((48 + m) ∷ [])
    one m l = record { first = 48 + m; more = []; is = refl; digits = ap (λ b. b && true) (digit_is m l); nonzero = λ h e. omega arith; alone = λ _. refl }

    more : (m : ℕ) (ds : List ℕ) → 10 ≤ m → Whole (m / 10) ds → Whole m (ds ++ ((48 + m % 10) ∷ []))
    more m ds l h = record {
      first = h.first;
      more = h.more ++ ((48 + m % 10) ∷ []);
      is = ap (λ l. l ++ ((48 + m % 10) ∷ [])) h.is;
      digits = all_both is_ascii_digit ds ((48 + m % 10) ∷ []) h.digits (ap (λ b. b && true) (digit_is (m % 10) (omega arith)));
      nonzero = λ _. h.nonzero (omega arith);
      alone = λ small. absurd (omega arith);
    }

is_whole-decimal : (n : ℕ) → n < 10 ^ 64 → is_whole (decimal n) ≡ true
is_whole-decimal n h = let w = whole_decimal n h in by w (cases_eq n 0)
  where
    alone : (b : Bool) → (not b || true) ≡ true
    alone true = refl
    alone false = refl

    by : (w : Whole n (decimal n)) → (n ≡ 0) ⊎ (n ≡ 0 → ⊥) → is_whole (decimal n) ≡ true
    by w (inl e) = ap is_whole w.is ∙ ap is_whole (ap (λ l. w.first ∷ l) (w.alone (omega arith))) ∙ alone (eqb w.first 48)
    by w (inr e) = ap is_whole w.is ∙ ap (λ b. not b || eqb (length w.more) 0) (ne_eqb w.first 48 (w.nonzero (omega arith)))

-- ---- digits with zeros in front

front_digit : (k n : ℕ) → n < 10 ^ suc k → n / 10 ^ k < 10
front_digit k n h = let tens : n < 10 * 10 ^ k = omega (arith, h, pow-succ' 10 k) in (div-lt_iff_lt-mul {k = 10 ^ k} {x = n} {y = 10} (ten_pos k)).1 tens

all_padded : (k n : ℕ) → n < 10 ^ k → list_all is_ascii_digit (padded k n) ≡ true
unfolding padded
all_padded zero n h = refl
all_padded (suc k) n h = ap₂ (λ x y. x && y) (digit_is (n / 10 ^ k) (front_digit k n h)) (all_padded k (n % 10 ^ k) (mod-lt n (ten_pos k)))

padded_value : (k a n : ℕ) → n < 10 ^ k → digits_value_after 10 a (padded k n) ≡ a * 10 ^ k + n
unfolding padded
padded_value zero a n h = omega arith
padded_value (suc k) a n h =
    let d = n / 10 ^ k in
    let r = n % 10 ^ k in
    let whole : d * 10 ^ k + r ≡ n = div-add-mod' n (10 ^ k) in
    let spread : (a * 10 + d) * 10 ^ k ≡ a * 10 ^ suc k + d * 10 ^ k = add-mul (a * 10) d (10 ^ k) ∙ ap (λ p. p + d * 10 ^ k) (mul_assoc a 10 (10 ^ k) ∙ ap (λ p. a * p) (sym (pow-succ' 10 k))) in
    ap (λ v. digits_value_after 10 (a * 10 + v) (padded k r)) (value_is d (front_digit k n h)) ∙ padded_value k (a * 10 + d) r (mod-lt n (ten_pos k)) ∙ omega (arith, spread, whole)

tenth_below : (k n : ℕ) → n < 10 ^ suc k → n / 10 < 10 ^ k
tenth_below k n h = omega (arith, h, pow-succ' 10 k)

-- the digits of a fraction
pub record Trimmed (k n : ℕ) (ds : List ℕ) : Type 0 where
  short : length ds ≤ k
  digits : list_all is_ascii_digit ds ≡ true
  value : (a : ℕ) → digits_value_after 10 a ds * 10 ^ (k - length ds) ≡ a * 10 ^ k + n

trimmed_zeros : (k n : ℕ) → n % 10 ≡ 0 → Trimmed k (n / 10) (trimmed k (n / 10)) → Trimmed (suc k) n (trimmed k (n / 10))
trimmed_zeros k n e t = record {
  short = omega (arith, t.short);
  digits = t.digits;
  value = λ a.
      let v = digits_value_after 10 a (trimmed k (n / 10)) in
      let j = k - length (trimmed k (n / 10)) in
      let next : suc k - length (trimmed k (n / 10)) ≡ suc j = omega (arith, t.short) in
      let more : v * 10 ^ suc j ≡ v * 10 ^ j * 10 = ap (λ p. v * p) (pow-succ' 10 j ∙ mul_comm 10 (10 ^ j)) ∙ sym (mul_assoc v (10 ^ j) 10) in
      let tens : a * 10 ^ suc k ≡ a * 10 ^ k * 10 = ap (λ p. a * p) (pow-succ' 10 k ∙ mul_comm 10 (10 ^ k)) ∙ sym (mul_assoc a (10 ^ k) 10) in
      ap (λ i. v * 10 ^ i) next ∙ omega (arith, more, tens, t.value a, e);
}

padded_trimmed : (k n : ℕ) → n < 10 ^ suc k → Trimmed (suc k) n (padded (suc k) n)
padded_trimmed k n h = record {
  short = omega (arith, length-padded (suc k) n);
  digits = all_padded (suc k) n h;
  value = λ a. let none : suc k - length (padded (suc k) n) ≡ 0 = omega (arith, length-padded (suc k) n) in ap (λ i. digits_value_after 10 a (padded (suc k) n) * 10 ^ i) none ∙ omega (arith, padded_value (suc k) a n h);
}

trimmed_step : (k n : ℕ) → n < 10 ^ suc k → Trimmed k (n / 10) (trimmed k (n / 10)) → (n % 10 ≡ 0) ⊎ (n % 10 ≡ 0 → ⊥) → Trimmed (suc k) n (cond (eqb (n % 10) 0) (trimmed k (n / 10)) (padded (suc k) n))
trimmed_step k n h t (inl e) = subst (λ b. Trimmed (suc k) n (cond b (trimmed k (n / 10)) (padded (suc k) n))) (sym (eq-eqb (n % 10) 0 e)) (trimmed_zeros k n e t)
trimmed_step k n h t (inr e) = subst (λ b. Trimmed (suc k) n (cond b (trimmed k (n / 10)) (padded (suc k) n))) (sym (ne_eqb (n % 10) 0 e)) (padded_trimmed k n h)

trimmed_is : (k n : ℕ) → n < 10 ^ k → Trimmed k n (trimmed k n)
unfolding trimmed
trimmed_is zero n h = record { short = omega arith; digits = refl; value = λ a. omega arith }
trimmed_is (suc k) n h = trimmed_step k n h (trimmed_is k (n / 10) (tenth_below k n h)) (cases_eq (n % 10) 0)

-- ---- a magnitude

pub point_stops : (ds : List ℕ) → RunEnds is_ascii_digit (with_point ds)
point_stops [] = tt
point_stops (d ∷ ds) = refl

pub no_more : (ds : List ℕ) → list_all is_ascii_digit ds ≡ true → (digits ds ≡ ds) × (after_digits ds ≡ [])
no_more ds h = (
  ap digits (sym (append-nil ds)) ∙ run_front is_ascii_digit ds [] h tt,
  ap after_digits (sym (append-nil ds)) ∙ run_rest is_ascii_digit ds [] h tt,
)

pub fraction_point : (ds : List ℕ) → list_all is_ascii_digit ds ≡ true → fraction_at (with_point ds) ≡ Some (ds, [])
fraction_point [] h = refl
fraction_point (d ∷ ds) h = let n = no_more (d ∷ ds) h in ap₂ (λ f r. if_some f (Some (f, r))) n.0 n.1

pub fraction_power : (n : ℕ) → n ≤ 18 → pos 0 -ℤ pos n +ℤ pos 18 ≡ pos (18 - n)
fraction_power n h = omega (arith, ints)

pub all_point : (ds : List ℕ) → list_all is_ascii_digit ds ≡ true → list_all is_numeral_byte (with_point ds) ≡ true
all_point [] h = refl
all_point (d ∷ ds) h = all_more is_ascii_digit is_numeral_byte (d ∷ ds) digit_in_numeral h

module _ (n : ℕ) (small : n < 10 ^ 38) where
  below : n / 10 ^ 18 < 10 ^ 64
  below = omega arith

  in_fraction : Trimmed 18 (n % 10 ^ 18) (trimmed 18 (n % 10 ^ 18))
  in_fraction = trimmed_is 18 (n % 10 ^ 18) (mod-lt n (ten_pos 18))

  abbrev in_whole : Whole (n / 10 ^ 18) (decimal (n / 10 ^ 18))
  in_whole = whole_decimal (n / 10 ^ 18) below

  unsigned_again : unsigned (magnitude_text n) ≡ Some (decimal_of (decimal (n / 10 ^ 18)) (trimmed 18 (n % 10 ^ 18)) (pos 0))
  unsigned_again =
      let w = decimal (n / 10 ^ 18) in
      let f = trimmed 18 (n % 10 ^ 18) in
      some_parts (magnitude_text n) w (with_point f) (sym (run_front is_ascii_digit w (with_point f) in_whole.digits (point_stops f))) (sym (run_rest is_ascii_digit w (with_point f) in_whole.digits (point_stops f)))
      (f, []) (pos 0) (is_whole-decimal (n / 10 ^ 18) below) (fraction_point f in_fraction.digits) refl

  units_again : units_of (decimal_of (decimal (n / 10 ^ 18)) (trimmed 18 (n % 10 ^ 18)) (pos 0)) ≡ Some n
  unfolding units_of
  units_again =
      let w = decimal (n / 10 ^ 18) in
      let f = trimmed 18 (n % 10 ^ 18) in
      let value : digits_value 10 (w ++ f) * 10 ^ (18 - length f) ≡ n =
      ap (λ v. v * 10 ^ (18 - length f)) (digits_append 0 w f ∙ ap (λ v. digits_value_after 10 v f) (decimal_is_IsNumeral_wide (n / 10 ^ 18) below).1) ∙ in_fraction.value (n / 10 ^ 18) ∙ div-add-mod' n (10 ^ 18) in
      ap (λ p. option_and_then in_range (scaled (digits_value 10 (w ++ f)) p)) (fraction_power (length f) in_fraction.short) ∙ ap in_range value ∙ in_range-small n small

  abbrev first : ℕ
  first = in_whole.first

  abbrev more : List ℕ
  more = in_whole.more ++ with_point (trimmed 18 (n % 10 ^ 18))

  magnitude_parts : magnitude_text n ≡ first ∷ more
  magnitude_parts = ap (λ l. l ++ with_point (trimmed 18 (n % 10 ^ 18))) in_whole.is

  all_magnitude : list_all is_numeral_byte (magnitude_text n) ≡ true
  all_magnitude = all_both is_numeral_byte (decimal (n / 10 ^ 18)) (with_point (trimmed 18 (n % 10 ^ 18))) (all_more is_ascii_digit is_numeral_byte (decimal (n / 10 ^ 18)) digit_in_numeral in_whole.digits) (all_point (trimmed 18 (n % 10 ^ 18)) in_fraction.digits)

  first_digit : is_ascii_digit first ≡ true
  first_digit = (and_parts (is_ascii_digit in_whole.first) (list_all is_ascii_digit in_whole.more) (ap (list_all is_ascii_digit) (sym in_whole.is) ∙ in_whole.digits)).0

-- ---- a number

pub no_minus : (x : ℕ) → is_ascii_digit x ≡ true → eqb x 45 ≡ false
no_minus x h = grind (arith, nat_tests)

starts : (x : ℕ) → is_ascii_digit x ≡ true → (is_ascii_digit x || eqb x 45) ≡ true
starts x h = ap (λ b. b || eqb x 45) h

not_other : (x y : ℕ) → (is_ascii_digit x || eqb x 45) ≡ true → (is_ascii_digit y || eqb y 45) ≡ false → eqb x y ≡ false
not_other x y h k = ne_eqb x y (λ e. absurd (true≢false (sym h ∙ ap (λ x. is_ascii_digit x || eqb x 45) e ∙ k)))

numeral_first : (x : ℕ) (xs : List ℕ) → (is_ascii_digit x || eqb x 45) ≡ true → token_at (x ∷ xs) ≡ numeral_at (x ∷ xs)
unfolding token_at
numeral_first x xs h = λ i.
    cond (not_other x 123 h refl i) (begin_object, xs) (cond (not_other x 125 h refl i) (end_object, xs)
    (cond (not_other x 91 h refl i) (begin_array, xs) (cond (not_other x 93 h refl i) (end_array, xs)
    (cond (not_other x 58 h refl i) (name_separator, xs) (cond (not_other x 44 h refl i) (value_separator, xs)
    (cond (not_other x 34 h refl i) (string_token (string_at plain xs)) (cond (h i) (numeral_at (x ∷ xs)) (cond (is_letter x) (word_at (x ∷ xs)) (malformed, [])))))))))

numeral_read : (z : ℤ) (x : ℕ) (xs rest : List ℕ) → (is_ascii_digit x || eqb x 45) ≡ true → list_all is_numeral_byte (x ∷ xs) ≡ true → numeral (x ∷ xs) ≡ Some (Some z) → RunEnds is_numeral_byte rest
    → token_at ((x ∷ xs) ++ rest) ≡ (number (Some z), rest)
numeral_read z x xs rest h all is stops =
    numeral_first x (xs ++ rest) h
    ∙ ap₂ (λ w r. (number_token (numeral w), r)) (run_front is_numeral_byte (x ∷ xs) rest all stops) (run_rest is_numeral_byte (x ∷ xs) rest all stops)
    ∙ ap (λ o. (number_token o, rest)) is

pub number_again : (z : ℤ) (rest : List ℕ) → IsNumber z → RunEnds is_numeral_byte rest → token_at (number_text z ++ rest) ≡ (number (Some z), rest)
unfolding numeral
number_again (pos n) rest small stops =
    let x = first n small in
    let xs = more n small in
    let parts = magnitude_parts n small in
    let digit = first_digit n small in
    ap (λ l. token_at (l ++ rest)) parts
    ∙ numeral_read (pos n) x xs rest (starts x digit) (ap (list_all is_numeral_byte) (sym parts) ∙ all_magnitude n small)
    (ap (λ b. cond b (option_map (λ d. option_map (λ n. neg_ℤ (pos n)) (units_of d)) (unsigned xs)) (option_map (λ d. option_map pos (units_of d)) (unsigned (x ∷ xs)))) (no_minus x digit)
    ∙ ap (λ l. option_map (λ d. option_map pos (units_of d)) (unsigned l)) (sym parts) ∙ ap (option_map (λ d. option_map pos (units_of d))) (unsigned_again n small) ∙ ap (λ o. Some (option_map pos o)) (units_again n small))
    stops
number_again (negsuc n) rest small stops =
    let xs = magnitude_text (suc n) in
    numeral_read (negsuc n) 45 xs rest refl (all_magnitude (suc n) small)
    (ap (option_map (λ d. option_map (λ n. neg_ℤ (pos n)) (units_of d))) (unsigned_again (suc n) small) ∙ ap (λ o. Some (option_map (λ n. neg_ℤ (pos n)) o)) (units_again (suc n) small))
    stops

pub all_number : (z : ℤ) → IsNumber z → list_all is_numeral_byte (number_text z) ≡ true
all_number (pos n) small = all_magnitude n small
all_number (negsuc n) small = all_magnitude (suc n) small

-- no blank stands in front
abbrev pub Starts : List ℕ → Type 0
Starts [] = ⊥
Starts (x ∷ xs) = is_blank x ≡ false

not_blank : (x : ℕ) → is_ascii_digit x ≡ true → is_blank x ≡ false
not_blank x h = grind (arith, nat_tests)

pub number_starts : (z : ℤ) (rest : List ℕ) → IsNumber z → Starts (number_text z ++ rest)
number_starts (pos n) rest small = subst (λ l. Starts (l ++ rest)) (sym (magnitude_parts n small)) (not_blank (first n small) (first_digit n small))
number_starts (negsuc n) rest small = refl
