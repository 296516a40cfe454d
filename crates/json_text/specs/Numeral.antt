-- Numbers (RFC 8259, section 6), and their units of 10^-18.
use Rattle.std.specs.Prelude.{◌≡◌, ◌⊎◌, ℕ, ℤ, pos, neg_ℤ, IsTrue, ◌-ℤ◌, List, [], ◌∷◌, ◌++◌, length, take, drop, Bool, false, if◌then◌else◌, ◌||◌, not, ◌==◌, Option, Some, None, option_map, option_and_then}
use Rattle.std.specs.List.{prefix_len, list_all}
use Rattle.std.specs.Char.{is_ascii_digit}
use Rattle.std.specs.Str.Parse.{digits_value}
use Rattle.json_tree.specs.Num.{Decimal, units_of}

-- a byte that a numeral goes on with
abbrev pub is_numeral_byte : ℕ → Bool
is_numeral_byte x = is_ascii_digit x || (x == 43) || (x == 45) || (x == 46) || (x == 101) || (x == 69)

-- ---- [ minus ] int [ frac ] [ exp ]

abbrev pub digits : List ℕ → List ℕ
digits s = take (prefix_len is_ascii_digit s) s

abbrev pub after_digits : List ℕ → List ℕ
after_digits s = drop (prefix_len is_ascii_digit s) s

-- digits with no zero in front, but for zero itself
abbrev pub is_whole : List ℕ → Bool
is_whole [] = false
is_whole (d ∷ ds) = not (d == 48) || (length ds == 0)

abbrev pub if_some : List ℕ → Option (List ℕ × List ℕ) → Option (List ℕ × List ℕ)
if_some [] r = None
if_some (d ∷ ds) r = r

-- the digits after the point, where a point is, and what follows them
abbrev pub fraction_at : List ℕ → Option (List ℕ × List ℕ)
fraction_at [] = Some ([], [])
fraction_at (x ∷ s) = if x == 46 then if_some (digits s) (Some (digits s, after_digits s)) else Some ([], x ∷ s)

-- digits alone, at least one
abbrev pub whole_digits : List ℕ → Option ℕ
whole_digits [] = None
whole_digits (d ∷ ds) = if list_all is_ascii_digit (d ∷ ds) then Some (digits_value 10 (d ∷ ds)) else None

abbrev pub signed_digits : List ℕ → Option ℤ
signed_digits [] = None
signed_digits (x ∷ s) =
    if x == 45 then option_map (λ n. neg_ℤ (pos n)) (whole_digits s) else (if x == 43 then option_map pos (whole_digits s) else option_map pos (whole_digits (x ∷ s)))

-- the exponent, or 0 where none is, up to the end
abbrev pub exponent_of : List ℕ → Option ℤ
exponent_of [] = Some (pos 0)
exponent_of (x ∷ s) = if (x == 101) || (x == 69) then signed_digits s else None

abbrev pub decimal_of : List ℕ → List ℕ → ℤ → Decimal
decimal_of whole fraction exponent = record { coefficient = digits_value 10 (whole ++ fraction); power = exponent -ℤ pos (length fraction) }

-- a numeral with no sign
unfoldable pub unsigned : List ℕ → Option Decimal
unsigned s =
    if is_whole (digits s) then option_and_then (λ f. option_map (decimal_of (digits s) f.0) (exponent_of f.1)) (fraction_at (after_digits s)) else None

-- what a numeral spells: no value at all, or one that is a number or isn't
unfoldable pub numeral : List ℕ → Option (Option ℤ)
numeral [] = None
numeral (x ∷ s) =
    if x == 45 then option_map (λ d. option_map (λ n. neg_ℤ (pos n)) (units_of d)) (unsigned s) else option_map (λ d. option_map pos (units_of d)) (unsigned (x ∷ s))

-- ---- the same, as the RFC writes it: number = [ minus ] int [ frac ] [ exp ]

abbrev pub AreDigits : List ℕ → Type 0
AreDigits s = IsTrue (list_all is_ascii_digit s)

abbrev pub IsMinus : List ℕ → Type 0
IsMinus s = (s ≡ []) ⊎ (s ≡ 45 ∷ [])

-- zero / ( digit1-9 *DIGIT )
abbrev pub IsInt : List ℕ → Type 0
IsInt s = (s ≡ 48 ∷ []) ⊎ ((d : ℕ) × (ds : List ℕ) × (s ≡ d ∷ ds) × (d ≡ 48 → ⊥) × AreDigits (d ∷ ds))

-- decimal-point 1*DIGIT
abbrev pub IsFrac : List ℕ → Type 0
IsFrac s = (s ≡ []) ⊎ ((d : ℕ) × (ds : List ℕ) × (s ≡ 46 ∷ d ∷ ds) × AreDigits (d ∷ ds))

-- e [ minus / plus ] 1*DIGIT
abbrev pub IsExp : List ℕ → Type 0
IsExp s = (s ≡ []) ⊎ ((e : ℕ) × (sign : List ℕ) × (d : ℕ) × (ds : List ℕ) × (s ≡ e ∷ (sign ++ d ∷ ds)) × ((e ≡ 101) ⊎ (e ≡ 69)) × ((sign ≡ []) ⊎ ((sign ≡ 43 ∷ []) ⊎ (sign ≡ 45 ∷ []))) × AreDigits (d ∷ ds))

pub record IsNumeral (bytes : List ℕ) : Type 0 where
  pub minus : List ℕ
  pub int : List ℕ
  pub frac : List ℕ
  pub exp : List ℕ
  pub written : bytes ≡ minus ++ (int ++ (frac ++ exp))
  pub is_minus : IsMinus minus
  pub is_int : IsInt int
  pub is_frac : IsFrac frac
  pub is_exp : IsExp exp
