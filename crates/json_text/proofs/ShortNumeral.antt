-- Numerals of few digits.
use Rattle.std.proofs.Common.{◌≡◌, ℕ, zero, suc, ◌+◌, ◌-◌, ◌*◌, ◌^◌, ◌<◌, ◌≤◌, pos, neg_ℤ, List, [], ◌∷◌, ◌++◌, length, take, drop, get_or, true, cond, ◌&&◌, Some, option_map, option_and_then, refl, sym, ap, ap₂, ◌∙◌, append_assoc, subst, arith}
use Rattle.std.proofs.lemmas.List.{length-append, take_more, take-append-drop}
use Rattle.std.proofs.lemmas.List.Folds.{list_all-append}
use Rattle.std.proofs.lemmas.Bool.{and_parts}
use Rattle.std.proofs.Math.Nat.{pow-succ', pow-le-pow_right, mul-lt-mul_of_pos_right, add-mul}
use Rattle.std.proofs.Math.Pow.{pow-add}
use Rattle.std.proofs.Math.Seq.{take-append_seam}
use Rattle.std.specs.List.{prefix_len, list_all}
use Rattle.std.specs.Char.{is_ascii_digit, digit_value}
use Rattle.std.specs.Str.Parse.{digits_value, digits_value_after}
use Rattle.json_tree.specs.Num.{in_range, scaled, units_of}
use Rattle.json_text.specs.Numeral.{is_numeral_byte, is_whole, decimal_of, unsigned, numeral}
use Rattle.json_text.specs.ShortNumeral.{BeginsWithDigits, Stops, IsShortFraction, IsShort}
use Rattle.json_text.specs.Print.{with_point}
use Rattle.json_tree.specs.Decimals.{in_range-small, ten_pos, ten_step, ten_split}
use Rattle.json_text.proofs.NumeralValues.{some_parts}
use Rattle.json_tree.specs.DigitLists.{digit_is, digits_append}
use Rattle.json_text.proofs.NumbersReadBack.{RunEnds, run_stops, run_front, run_rest, all_both, all_more, all_point, digit_in_numeral, point_stops, fraction_point, fraction_power, no_minus}

-- a digit more
pub front_more : (bs : List ℕ) (n len : ℕ) → BeginsWithDigits bs n len → len < length bs → len < 18 → is_ascii_digit (get_or bs len 0) ≡ true → BeginsWithDigits bs (n * 10 + (get_or bs len 0 - 48)) (len + 1)
front_more bs n len f h few digit =
    let x = get_or bs len 0 in
    let is = digit_is x digit in
    let more : take (len + 1) bs ≡ take len bs ++ x ∷ [] = take_more bs len 0 h in
    let next : len + 1 ≡ suc len = omega arith in
    record {
      within = omega arith;
      few = omega arith;
      digits = ap (list_all is_ascii_digit) more ∙ list_all-append is_ascii_digit (take len bs) (x ∷ []) ∙ ap₂ (λ a b. a && (b && true)) f.digits digit;
      value = ap₂ (λ a b. a * 10 + b) f.value (sym is.0) ∙ sym (digits_append 0 (take len bs) (x ∷ [])) ∙ ap (digits_value 10) (sym more);
      small = subst (λ k. n * 10 + (x - 48) < 10 ^ k) (sym next) (omega (arith, f.small, is.1, pow-succ' 10 len));
    }

-- what is added stays within 64 bits
pub front_fits : (bs : List ℕ) (n len : ℕ) → BeginsWithDigits bs n len → len < 18 → n * 10 + 256 < 2 ^ 64
front_fits bs n len f h = omega (arith, f.small, pow-le-pow_right {n = 10} (omega arith) {i = len} {j = 17} (omega arith))

-- ---- what a fraction adds

pub no_fraction : (bs : List ℕ) → Stops bs → IsShortFraction bs 0 0
no_fraction bs stops = record { digits = []; rest = bs; is = refl; few = omega arith; all = refl; long = refl; value = refl; small = omega arith; stops = stops }

point_long : (ds : List ℕ) → 0 < length ds → length (with_point ds) ≡ length ds + 1
point_long [] h = absurd (omega arith)
point_long (d ∷ ds) h = omega arith

point_is : (ds : List ℕ) → 0 < length ds → 46 ∷ ds ≡ with_point ds
point_is [] h = absurd (omega arith)
point_is (d ∷ ds) h = refl

short_take : (n : ℕ) (xs : List ℕ) → n ≤ length xs → length (take n xs) ≡ n
short_take zero xs h = refl
short_take (suc n) [] h = absurd (omega arith)
short_take (suc n) (x ∷ xs) h = ap suc (short_take n xs (omega arith))

-- n digits, and as many tens as make 18 of both
pub fits_units : (n len : ℕ) → n < 10 ^ len → len ≤ 18 → n * 10 ^ (18 - len) < 10 ^ 18
fits_units n len small few =
    let power : 10 ^ len * 10 ^ (18 - len) ≡ 10 ^ 18 = sym (pow-add 10 len (18 - len)) ∙ ap (λ k. 10 ^ k) (let sum : len + (18 - len) ≡ 18 = omega arith in sum) in
    omega (arith, power, mul-lt-mul_of_pos_right {m = n} {n = 10 ^ len} {k = 10 ^ (18 - len)} small (ten_pos (18 - len)))

pub some_fraction : (bs after rest : List ℕ) (n len : ℕ) → bs ≡ 46 ∷ after → BeginsWithDigits after n len → 0 < len → rest ≡ drop len after → Stops rest → IsShortFraction bs (n * 10 ^ (18 - len)) (len + 1)
some_fraction bs after rest n len e f some r stops =
    let ds = take len after in
    let is_long : length ds ≡ len = short_take len after f.within in
    let more : 0 < length ds = omega (arith, is_long) in record {
      digits = ds;
      rest = rest;
      is = e ∙ ap (λ l. 46 ∷ l) (sym (take-append-drop len after)) ∙ ap₂ (λ a b. a ++ b) (point_is ds more) (sym r);
      few = omega (arith, is_long, f.few);
      all = f.digits;
      long = omega (arith, point_long ds more, is_long);
      value = ap₂ (λ a k. a * 10 ^ (18 - k)) f.value (sym is_long);
      small = fits_units n len f.small f.few;
      stops = stops;
    }

-- ---- what it spells

shifted : (a b : ℕ) (ds : List ℕ) → digits_value_after 10 (a + b) ds ≡ a * 10 ^ length ds + digits_value_after 10 b ds
shifted a b [] = omega arith
shifted a b (d ∷ ds) =
    let sum : (a + b) * 10 + digit_value d ≡ a * 10 + (b * 10 + digit_value d) = omega arith in
    ap (λ v. digits_value_after 10 v ds) sum ∙ shifted (a * 10) (b * 10 + digit_value d) ds ∙ ap (λ v. v + digits_value_after 10 (b * 10 + digit_value d) ds) (ten_step a (length ds))

whole_and_fraction : (w f : List ℕ) (n m : ℕ) → n ≡ digits_value 10 w → length f ≤ 18 → m ≡ digits_value 10 f * 10 ^ (18 - length f) → digits_value 10 (w ++ f) * 10 ^ (18 - length f) ≡ n * 10 ^ 18 + m
whole_and_fraction w f n m e few is =
    let k = length f in
    let none : digits_value 10 w + 0 ≡ digits_value 10 w = omega arith in
    let all : digits_value 10 (w ++ f) ≡ n * 10 ^ k + digits_value 10 f = digits_append 0 w f ∙ ap (λ v. digits_value_after 10 v f) (sym none) ∙ shifted (digits_value 10 w) 0 f ∙ ap (λ v. v * 10 ^ k + digits_value 10 f) (sym e) in
    let sum : k + (18 - k) ≡ 18 = omega arith in
    ap (λ v. v * 10 ^ (18 - k)) all ∙ add-mul (n * 10 ^ k) (digits_value 10 f) (10 ^ (18 - k)) ∙ ap₂ (λ a b. a + b) (sym (ten_split n k (18 - k)) ∙ ap (λ j. n * 10 ^ j) sum) (sym is)

short_units : (w f : List ℕ) (u : ℕ) → length f ≤ 18 → digits_value 10 (w ++ f) * 10 ^ (18 - length f) ≡ u → u < 10 ^ 38 → units_of (decimal_of w f (pos 0)) ≡ Some u
unfolding units_of
short_units w f u few value small = ap (λ p. option_and_then in_range (scaled (digits_value 10 (w ++ f)) p)) (fraction_power (length f) few) ∙ ap in_range value ∙ in_range-small u small

short_numeral : (w f : List ℕ) (u : ℕ) → list_all is_ascii_digit w ≡ true → is_whole w ≡ true → list_all is_ascii_digit f ≡ true → units_of (decimal_of w f (pos 0)) ≡ Some u → numeral (w ++ with_point f) ≡ Some (Some (pos u))
unfolding numeral
short_numeral [] f u all whole more is = absurd (cc whole)
short_numeral (x ∷ s) f u all whole more is =
    let w = x ∷ s in
    let t = w ++ with_point f in
    let parts : unsigned t ≡ Some (decimal_of w f (pos 0)) =
    some_parts t w (with_point f) (sym (run_front is_ascii_digit w (with_point f) all (point_stops f))) (sym (run_rest is_ascii_digit w (with_point f) all (point_stops f))) (f, []) (pos 0) whole (fraction_point f more) refl in
    ap (λ b. cond b (option_map (λ d. option_map (λ n. neg_ℤ (pos n)) (units_of d)) (unsigned (s ++ with_point f))) (option_map (λ d. option_map pos (units_of d)) (unsigned t))) (no_minus x (and_parts (is_ascii_digit x) (list_all is_ascii_digit s) all).0)
    ∙ ap (option_map (λ d. option_map pos (units_of d))) parts ∙ ap (λ o. Some (option_map pos o)) is

stops_at : (rest : List ℕ) → Stops rest → RunEnds is_numeral_byte rest
stops_at [] h = tt
stops_at (x ∷ xs) h = h

some_whole : (bs : List ℕ) (len : ℕ) → is_whole (take len bs) ≡ true → 0 < len
some_whole bs zero h = absurd (cc h)
some_whole bs (suc n) h = omega arith

pub is_short : (bs ds rest : List ℕ) (n len m k : ℕ) → BeginsWithDigits bs n len → ds ≡ take len bs → rest ≡ drop len bs → is_whole ds ≡ true → IsShortFraction rest m k → IsShort bs (n * 10 ^ 18 + m) (len + k)
is_short bs ds rest n len m k f d r whole fr =
    let w = take len bs in
    let t = w ++ with_point fr.digits in
    let is_long : length w ≡ len = short_take len bs f.within in
    let long : length t ≡ len + k = omega (arith, length-append w (with_point fr.digits), fr.long, is_long) in
    let bytes : bs ≡ t ++ fr.rest = sym (take-append-drop len bs) ∙ ap (λ l. w ++ l) (sym r ∙ fr.is) ∙ sym (append_assoc w (with_point fr.digits) fr.rest) in
    let all : list_all is_numeral_byte t ≡ true = all_both is_numeral_byte w (with_point fr.digits) (all_more is_ascii_digit is_numeral_byte w digit_in_numeral f.digits) (all_point fr.digits fr.all) in
    let run : prefix_len is_numeral_byte bs ≡ len + k = ap (prefix_len is_numeral_byte) bytes ∙ run_stops is_numeral_byte t fr.rest all (stops_at fr.rest fr.stops) ∙ long in
    let front : take (len + k) bs ≡ t = ap₂ take (sym long) bytes ∙ take-append_seam t fr.rest in
    let whole_small : n < 10 ^ 18 = omega (arith, f.small, pow-le-pow_right {n = 10} (omega arith) {i = len} {j = 18} f.few) in
    let small : n * 10 ^ 18 + m < 10 ^ 38 = omega (arith, whole_small, fr.small) in
    let is : is_whole w ≡ true = ap is_whole (sym d) ∙ whole in
    record {
      some = omega (arith, some_whole bs len is);
      all = sym run;
      small = small;
      spells = ap numeral front ∙ short_numeral w fr.digits (n * 10 ^ 18 + m) f.digits is fr.all (short_units w fr.digits (n * 10 ^ 18 + m) fr.few (whole_and_fraction w fr.digits n m f.value fr.few fr.value) small);
    }
