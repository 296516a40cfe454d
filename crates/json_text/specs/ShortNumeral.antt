-- Numerals of few digits. Only the crate's private clauses cite it.
use Rattle.std.specs.Prelude.{◌≡◌, ℕ, ◌-◌, ◌*◌, ◌^◌, ◌<◌, ◌≤◌, pos, List, [], ◌∷◌, ◌++◌, take, length, false, Some, IsTrue}
use Rattle.std.specs.List.{prefix_len, list_all}
use Rattle.std.specs.Char.{is_ascii_digit}
use Rattle.std.specs.Str.Parse.{digits_value}
use Rattle.json_text.specs.Numeral.{is_numeral_byte, numeral}
use Rattle.json_text.specs.Print.{with_point}

-- the first len bytes are digits, at most 18, that write n
pub record BeginsWithDigits (bytes : List ℕ) (n len : ℕ) : Type 0 where
  pub within : len ≤ length bytes
  pub few : len ≤ 18
  pub digits : IsTrue (list_all is_ascii_digit (take len bytes))
  pub value : n ≡ digits_value 10 (take len bytes)
  pub small : n < 10 ^ len

-- no numeral goes on with these bytes
abbrev pub Stops : List ℕ → Type 0
Stops [] = Unit {0}
Stops (x ∷ xs) = is_numeral_byte x ≡ false

-- the bytes begin with nothing, or with a point and digits, at most 18, which add n units and are len bytes
pub record IsShortFraction (bytes : List ℕ) (n len : ℕ) : Type 0 where
  pub digits : List ℕ
  pub rest : List ℕ
  pub is : bytes ≡ with_point digits ++ rest
  pub few : length digits ≤ 18
  pub all : IsTrue (list_all is_ascii_digit digits)
  pub long : len ≡ length (with_point digits)
  pub value : n ≡ digits_value 10 digits * 10 ^ (18 - length digits)
  pub small : n < 10 ^ 18
  pub stops : Stops rest

-- the numeral that the bytes begin with has this many bytes, and spells so many units
pub record IsShort (bytes : List ℕ) (n len : ℕ) : Type 0 where
  pub some : 0 < len
  pub all : len ≡ prefix_len is_numeral_byte bytes
  pub small : n < 10 ^ 38
  pub spells : numeral (take len bytes) ≡ Some (Some (pos n))
