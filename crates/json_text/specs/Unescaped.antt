-- A string, a character at a time. Only the crate's private clauses cite it.
use Rattle.std.specs.Prelude.{◌≡◌, ℕ, ◌<◌, Bool, not, nat_le, nat_lt, List, [], ◌∷◌, ◌&&◌, ◌||◌, ◌==◌, if◌then◌else◌, Option, Some, None, option_map, length, encode_utf8}
use Rattle.json_text.specs.Text.{Within, string_at, plain, after, code_unit}
use Rattle.json_text.specs.declared.token.string.Unescaped.{Unescaped}
use Rattle.json_text.specs.declared.token.string.Unescaped.TheVariants.{Closing, Char, Malformed}

-- what stands at the front of the bytes, within a string
abbrev pub IsUnescaped : Within → List ℕ → Unescaped → Type 0
IsUnescaped within bytes (Closing rest) = string_at within bytes ≡ Some ([], rest.now)
IsUnescaped within bytes (Char c rest) = (string_at within bytes ≡ after (encode_utf8 c) (string_at plain rest.now)) × (length rest.now < length bytes)
IsUnescaped within bytes Malformed = string_at within bytes ≡ None

-- the code unit of four digits at the front, and what follows
abbrev pub unit_at : List ℕ → Option (ℕ × List ℕ)
unit_at (a ∷ b ∷ c ∷ d ∷ xs) = option_map (λ u. (u, xs)) (code_unit a b c d)
unit_at bytes = None

-- the same behind `\u`
abbrev pub escaped_unit_at : List ℕ → Option (ℕ × List ℕ)
escaped_unit_at (s ∷ u ∷ xs) = if (s == 92) && (u == 117) then unit_at xs else None
escaped_unit_at bytes = None

-- a byte that doesn't stand for itself, and one that does
abbrev pub is_mark : ℕ → Bool
is_mark x = (x == 34) || (x == 92) || nat_lt x 32

abbrev pub is_plain : ℕ → Bool
is_plain x = not (x == 34) && not (x == 92) && nat_le 32 x
