-- The tokens of a text, in order, with the end as the last.
use Rattle.std.specs.Prelude.{ℕ, zero, suc, ◌+◌, ◌-◌, ℤ, List, [], ◌∷◌, take, drop, length, Bool, true, false, if◌then◌else◌, ◌&&◌, ◌||◌, ◌==◌, nat_le, Option, Some, None}
use Rattle.std.specs.List.{prefix_len}
use Rattle.std.specs.Str.{bytes_eq}
use Rattle.std.specs.Char.{is_ascii_digit}
use Rattle.json_text.specs.Token.{Token, Placed, begin_object, end_object, begin_array, end_array, name_separator, value_separator, string, number, boolean, null, end, malformed}
use Rattle.json_text.specs.Text.{plain, string_at}
use Rattle.json_text.specs.Numeral.{is_numeral_byte, numeral}

abbrev pub is_blank : ℕ → Bool
is_blank x = (x == 32) || (x == 9) || (x == 10) || (x == 13)

-- a token, and what follows it
abbrev pub Read : Type 0
Read = Token × List ℕ

abbrev pub string_token : Option (List ℕ × List ℕ) → Read
string_token None = (malformed, [])
string_token (Some p) = (string p.0, p.1)

abbrev pub number_token : Option (Option ℤ) → Token
number_token None = malformed
number_token (Some n) = number n

abbrev pub numeral_len : List ℕ → ℕ
numeral_len bytes = prefix_len is_numeral_byte bytes

abbrev pub numeral_at : List ℕ → Read
numeral_at bytes = (number_token (numeral (take (numeral_len bytes) bytes)), drop (numeral_len bytes) bytes)

abbrev pub is_letter : ℕ → Bool
is_letter x = nat_le 97 x && nat_le x 122

abbrev pub word_len : List ℕ → ℕ
word_len bytes = prefix_len is_letter bytes

abbrev pub word_token : List ℕ → Token
word_token w =
    if bytes_eq w (116 ∷ 114 ∷ 117 ∷ 101 ∷ []) then boolean true
    else (if bytes_eq w (102 ∷ 97 ∷ 108 ∷ 115 ∷ 101 ∷ []) then boolean false
    else (if bytes_eq w (110 ∷ 117 ∷ 108 ∷ 108 ∷ []) then null else malformed))

abbrev pub word_at : List ℕ → Read
word_at bytes = (word_token (take (word_len bytes) bytes), drop (word_len bytes) bytes)

-- the token at the front of bytes that begin with no blank
unfoldable pub token_at : List ℕ → Read
token_at [] = (end, [])
token_at (x ∷ xs) =
    if x == 123 then (begin_object, xs)
    else (if x == 125 then (end_object, xs)
    else (if x == 91 then (begin_array, xs)
    else (if x == 93 then (end_array, xs)
    else (if x == 58 then (name_separator, xs)
    else (if x == 44 then (value_separator, xs)
    else (if x == 34 then string_token (string_at plain xs)
    else (if is_ascii_digit x || (x == 45) then numeral_at (x ∷ xs)
    else (if is_letter x then word_at (x ∷ xs) else (malformed, [])))))))))

-- From the offset `at` on; `left` is how many bytes the token that was read last still has.
unfoldable pub tokens_from : ℕ → ℕ → List ℕ → List Placed
tokens_from left at [] = record { at = at; token = end } ∷ []
tokens_from (suc left) at (x ∷ xs) = tokens_from left (at + 1) xs
tokens_from zero at (x ∷ xs) =
    if is_blank x then tokens_from 0 (at + 1) xs
    else (record { at = at; token = (token_at (x ∷ xs)).0 } ∷ tokens_from (length xs - length (token_at (x ∷ xs)).1) (at + 1) xs)

abbrev pub tokens : List ℕ → List Placed
tokens bytes = tokens_from 0 0 bytes
