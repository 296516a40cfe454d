-- Where tokens begin and end.
use Rattle.std.proofs.Common.{◌≡◌, ℕ, zero, suc, ◌+◌, ◌<◌, ◌≤◌, List, [], ◌∷◌, ◌++◌, get_or, Bool, true, false, cond, ◌||◌, eqb, ap, ◌∙◌, arith, encode_utf8, subst}
use Rattle.std.proofs.lemmas.Str.{IsCharBoundary-after_ascii}
use Rattle.std.proofs.lemmas.List.Sums.{prefix_len_passes, prefix_len-le-length}
use Rattle.std.proofs.lemmas.Bool.{ne_eqb}
use Rattle.std.proofs.lemmas.Bool.Decides.{nat_tests}
use Rattle.std.specs.Str.{IsUtf8, IsCharBoundary}
use Rattle.std.specs.List.{prefix_len}
use Rattle.std.specs.Char.{is_ascii_digit}
use Rattle.json_text.specs.Token.{malformed, begin_object, end_object, begin_array, end_array, name_separator, value_separator}
use Rattle.json_text.specs.Text.{plain, string_at}
use Rattle.json_text.specs.Numeral.{is_numeral_byte}
use Rattle.json_text.specs.Lex.{is_blank, numeral_at, word_at, is_letter, string_token, token_at}
use Rattle.json_text.proofs.Wide.{wide_first}

-- a text may be cut after a run of bytes that are ASCII
pub run_boundary : (p : ℕ → Bool) (bs : List ℕ) (n : ℕ) → ((x : ℕ) → p x ≡ true → x < 128) → n ≡ prefix_len p bs → IsUtf8 bs → 0 < n → IsCharBoundary bs n
run_boundary p bs zero ascii e u h = absurd (omega arith)
run_boundary p bs (suc m) ascii e u h =
    let below : m < prefix_len p bs = omega arith in
    let one : m + 1 ≡ suc m = omega arith in
    subst (IsCharBoundary bs) one
    (IsCharBoundary-after_ascii bs m u (omega (arith, prefix_len-le-length p bs)) (ascii (get_or bs m 0) (prefix_len_passes p bs m 0 below)))

pub numeral_is_ascii : (x : ℕ) → is_numeral_byte x ≡ true → x < 128
numeral_is_ascii x h = grind (arith, nat_tests)

pub letter_is_ascii : (x : ℕ) → is_letter x ≡ true → x < 128
letter_is_ascii x h = grind (arith, nat_tests)

pub blank_is_ascii : (x : ℕ) → is_blank x ≡ true → x < 128
blank_is_ascii x h = grind (arith, nat_tests)

wide_letter : (x : ℕ) → 128 ≤ x → is_letter x ≡ false
wide_letter x h = grind (arith, nat_tests)

wide_numeral : (x : ℕ) → 128 ≤ x → (is_ascii_digit x || eqb x 45) ≡ false
wide_numeral x h = grind (arith, nat_tests)

malformed_byte : (x : ℕ) (xs : List ℕ) → 128 ≤ x → token_at (x ∷ xs) ≡ (malformed, [])
unfolding token_at
malformed_byte x xs h = λ i.
    cond (ne_eqb x 123 (λ e. absurd (omega arith)) i) (begin_object, xs) (cond (ne_eqb x 125 (λ e. absurd (omega arith)) i) (end_object, xs)
    (cond (ne_eqb x 91 (λ e. absurd (omega arith)) i) (begin_array, xs) (cond (ne_eqb x 93 (λ e. absurd (omega arith)) i) (end_array, xs)
    (cond (ne_eqb x 58 (λ e. absurd (omega arith)) i) (name_separator, xs) (cond (ne_eqb x 44 (λ e. absurd (omega arith)) i) (value_separator, xs)
    (cond (ne_eqb x 34 (λ e. absurd (omega arith)) i) (string_token (string_at plain xs)) (cond (wide_numeral x h i) (numeral_at (x ∷ xs)) (cond (wide_letter x h i) (word_at (x ∷ xs)) (malformed, [])))))))))

pub token_at-wide : (c : ℕ) (rest : List ℕ) → 128 ≤ c → token_at (encode_utf8 c ++ rest) ≡ (malformed, [])
token_at-wide c rest wide = let w = wide_first c rest wide in ap token_at w.2 ∙ malformed_byte w.0 w.1 w.3

pub ruleset token_at_wide = (token_at-wide)
