-- Digits, one after another.
use Rattle.std.proofs.Common.{◌≡◌, ℕ, ◌+◌, ◌-◌, ◌*◌, ◌<◌, ◌≤◌, List, [], ◌∷◌, ◌++◌, length, get_or, drop, true, refl, sym, ap, ◌∙◌, arith}
use Rattle.std.proofs.lemmas.Bool.{and_parts}
use Rattle.std.proofs.lemmas.Bool.Decides.{nat_tests}
use Rattle.std.proofs.lemmas.List.{drop_more}
use Rattle.std.specs.List.{list_all}
use Rattle.std.specs.Char.{is_ascii_digit, digit_value}
use Rattle.std.specs.Str.Parse.{digits_value_after}

pub digit_is : (b : ℕ) → is_ascii_digit b ≡ true → (digit_value b ≡ b - 48) × (b - 48 < 10)
digit_is b h = (grind (arith, nat_tests), grind (arith, nat_tests))

pub next_digit : (ds : List ℕ) (i : ℕ) → i < length ds → list_all is_ascii_digit (drop i ds) ≡ true
    → (get_or ds i 0 - 48 < 10) × (list_all is_ascii_digit (drop (i + 1) ds) ≡ true) × ((w : ℕ) → digits_value_after 10 (w * 10 + (get_or ds i 0 - 48)) (drop (i + 1) ds) ≡ digits_value_after 10 w (drop i ds))
next_digit ds i h all =
    let more = drop_more ds i 0 h in
    let both = and_parts (is_ascii_digit (get_or ds i 0)) _ (ap (list_all is_ascii_digit) (sym more) ∙ all) in
    let is = digit_is (get_or ds i 0) both.0 in
    (is.1, both.1, λ w. ap (λ d. digits_value_after 10 (w * 10 + d) (drop (i + 1) ds)) (sym is.0) ∙ ap (digits_value_after 10 w) (sym more))

pub digits_append : (n : ℕ) (xs ys : List ℕ) → digits_value_after 10 n (xs ++ ys) ≡ digits_value_after 10 (digits_value_after 10 n xs) ys
digits_append n [] ys = refl
digits_append n (x ∷ xs) ys = digits_append (n * 10 + digit_value x) xs ys

-- digits make a number no smaller
pub value_grows : (n : ℕ) (ds : List ℕ) → n ≤ digits_value_after 10 n ds
value_grows n [] = omega arith
value_grows n (d ∷ ds) = omega (arith, value_grows (n * 10 + digit_value d) ds)
