-- The strings and numbers among the tokens of a text: its strings are UTF-8, its numbers in range.
use Rattle.std.proofs.Common.{◌≡◌, ℕ, zero, suc, ◌+◌, ◌-◌, ◌*◌, ◌<◌, ◌≤◌, ◌^◌, ℤ, pos, neg_ℤ, ◌+ℤ◌, nat_abs, List, [], ◌∷◌, ◌++◌, length, take, drop, Bool, true, false, cond, ◌&&◌, ◌||◌, eqb, ltb, Option, Some, None, option_map, option_and_then, encode_utf8, refl, sym, ap, ◌∙◌, arith, subst, ltb-true, ⊎_elim}
use Rattle.std.proofs.lemmas.Bool.{and_parts, cases_lt}
use Rattle.std.proofs.lemmas.List.{length-append}
use Rattle.std.proofs.lemmas.Bool.Decides.{nat_tests}
use Rattle.std.proofs.lemmas.Str.{IsUtf8-nil, IsUtf8-append, IsUtf8-encode, IsUtf8-drop, IsCharBoundary-after_ascii, encode_ascii}
use Rattle.std.specs.Prelude.{⊤}
use Rattle.std.specs.List.{prefix_len}
use Rattle.std.specs.Str.{IsUtf8, bytes_eq}
use Rattle.std.specs.Char.{is_ascii_digit, is_digit, digit_value}
use lib.Utf8.{scalar, scalars, encode, encodes, low_scalar}
use Rattle.json_tree.specs.Num.{IsNumber, Decimal, in_range, scaled, units_of}
use Rattle.json_text.specs.Token.{Token, string, number}
use Rattle.json_text.specs.Text.{Within, plain, after_backslash, after_u, after_high, after, short_escape, code_unit, is_high_half, is_low_half, pair_char, string_at}
use Rattle.json_text.specs.Numeral.{unsigned, numeral, is_numeral_byte}
use Rattle.json_text.specs.Lex.{is_blank, Read, string_token, number_token, numeral_len, is_letter, word_len, word_token, token_at, tokens_from, tokens}
use Rattle.json_text.specs.Grammar.{erased}
use Rattle.json_text.proofs.Lexing.{either, token_ends, token_next}
use Rattle.json_text.proofs.StringSteps.{plain_wide, wide_length}
use Rattle.json_text.proofs.TokenEnds.{numeral_is_ascii, letter_is_ascii, blank_is_ascii}

-- a string token is UTF-8, and a number in range
abbrev pub Fits : Token → Type 0
Fits (string s) = IsUtf8 s
Fits (number (Some z)) = IsNumber z
Fits t = ⊤

abbrev pub AllFit : List Token → Type 0
AllFit [] = ⊤
AllFit (t ∷ ts) = Fits t × AllFit ts

-- ---- UTF-8 after a byte of ASCII

pub tail_utf8 : (x : ℕ) (xs : List ℕ) → x < 128 → IsUtf8 (x ∷ xs) → IsUtf8 xs
tail_utf8 x xs h u = IsUtf8-drop (x ∷ xs) 1 u (IsCharBoundary-after_ascii (x ∷ xs) 0 u (omega arith) h)

drop_passed : (p : ℕ → Bool) → ((x : ℕ) → p x ≡ true → x < 128) → (xs : List ℕ) → IsUtf8 xs → IsUtf8 (drop (prefix_len p xs) xs)
drop_passed p ascii [] u = u
drop_passed p ascii (x ∷ xs) u =
    let rest = λ (v : IsUtf8 xs). drop_passed p ascii xs v in
    by rest (p x) refl
  where
    by : (IsUtf8 xs → IsUtf8 (drop (prefix_len p xs) xs)) → (b : Bool) → p x ≡ b → IsUtf8 (drop (cond b (1 + prefix_len p xs) 0) (x ∷ xs))
    by rest true e = let next : 1 + prefix_len p xs ≡ suc (prefix_len p xs) = omega arith in subst (λ n. IsUtf8 (drop n (x ∷ xs))) (sym next) (rest (tail_utf8 x xs (ascii x e) u))
    by rest false e = u

-- ---- the content of a string

-- what a string holds is UTF-8, and so is what follows it
abbrev FitString : Option (List ℕ × List ℕ) → Type 0
FitString None = ⊤
FitString (Some p) = IsUtf8 p.0 × IsUtf8 p.1

abbrev FitWithin : Within → Type 0
FitWithin (after_high h) = is_high_half h ≡ true
FitWithin w = ⊤

fit_after : (bytes : List ℕ) (r : Option (List ℕ × List ℕ)) → IsUtf8 bytes → FitString r → FitString (after bytes r)
fit_after bytes None u f = tt
fit_after bytes (Some p) u f = (IsUtf8-append bytes p.0 u f.0, f.1)

one_utf8 : (x : ℕ) → x < 128 → IsUtf8 (x ∷ [])
one_utf8 x h = subst IsUtf8 (encode_ascii x h) (IsUtf8-encode x (low_scalar x (omega arith)))

escape_ascii : (x c : ℕ) → short_escape x ≡ Some c → (x < 128) × (c < 128)
escape_ascii x c e = grind (arith, nat_tests)

fit_escape : (x : ℕ) (xs : List ℕ) (o : Option ℕ) → short_escape x ≡ o → IsUtf8 (x ∷ xs) → (x < 128 → FitString (string_at plain xs)) → FitString (option_and_then (λ c. after (c ∷ []) (string_at plain xs)) o)
fit_escape x xs None e u f = tt
fit_escape x xs (Some c) e u f = let a = escape_ascii x c e in fit_after (c ∷ []) (string_at plain xs) (one_utf8 c a.1) (f a.0)

digit_ascii : (a : ℕ) → is_digit a 16 ≡ true → (a < 128) × (digit_value a < 16)
digit_ascii a h = grind (arith, nat_tests)

abbrev AllDigits : ℕ → ℕ → ℕ → ℕ → ℕ → Type 0
AllDigits a b c d u = (a < 128) × (b < 128) × (c < 128) × (d < 128) × (u < 65536)

unit_by : (a b c d u : ℕ) (p q r s : Bool) → is_digit a 16 ≡ p → is_digit b 16 ≡ q → is_digit c 16 ≡ r → is_digit d 16 ≡ s
    → cond (p && q && r && s) (Some (digit_value a * 4096 + digit_value b * 256 + digit_value c * 16 + digit_value d)) None ≡ Some u → AllDigits a b c d u
unit_by a b c d u true true true true i j k l e =
    let sum : digit_value a * 4096 + digit_value b * 256 + digit_value c * 16 + digit_value d ≡ u = cc in
    let x = digit_ascii a i in
    let y = digit_ascii b j in
    let z = digit_ascii c k in
    let w = digit_ascii d l in
    (x.0, y.0, z.0, w.0, omega (arith, sum, x.1, y.1, z.1, w.1))
unit_by a b c d u false q r s i j k l e = absurd (cc e)
unit_by a b c d u true false r s i j k l e = absurd (cc e)
unit_by a b c d u true true false s i j k l e = absurd (cc e)
unit_by a b c d u true true true false i j k l e = absurd (cc e)

unit_digits : (a b c d u : ℕ) → code_unit a b c d ≡ Some u → AllDigits a b c d u
unit_digits a b c d u e = unit_by a b c d u (is_digit a 16) (is_digit b 16) (is_digit c 16) (is_digit d 16) refl refl refl refl e

four_on : (a b c d u : ℕ) (xs : List ℕ) → AllDigits a b c d u → IsUtf8 (a ∷ b ∷ c ∷ d ∷ xs) → IsUtf8 xs
four_on a b c d u xs s v = tail_utf8 d xs s.3 (tail_utf8 c _ s.2 (tail_utf8 b _ s.1 (tail_utf8 a _ s.0 v)))

scalar_unit : (u : ℕ) → u < 65536 → is_high_half u ≡ false → is_low_half u ≡ false → scalar u ≡ true
scalar_unit u small high low = grind (arith, nat_tests)

scalar_pair : (h l : ℕ) → is_high_half h ≡ true → is_low_half l ≡ true → scalar (pair_char h l) ≡ true
scalar_pair h l high low = grind (arith, nat_tests)

-- a character of more than one byte in front
wide_front : (x : ℕ) (xs cs : List ℕ) → 128 ≤ x → scalars cs ≡ true → encodes cs ≡ x ∷ xs
    → (c : ℕ) × (rest : List ℕ) × (128 ≤ c) × (scalar c ≡ true) × IsUtf8 rest × (encode_utf8 c ++ rest ≡ x ∷ xs)
wide_front x xs [] wide ok e = absurd (cc e)
wide_front x xs (c ∷ cs) wide ok e =
    let p = and_parts (scalar c) (scalars cs) ok in
    ⊎_elim
    (λ low. let same : c ∷ encodes cs ≡ x ∷ xs = sym (ap (λ l. l ++ encodes cs) (encode_ascii c low)) ∙ e in let first : c ≡ x = cc in absurd (omega arith))
    (λ high. (c, encodes cs, high, p.0, (cs, (p.1, refl)), e))
    (cases_lt c 128)

string_fits : (n : ℕ) (w : Within) (bytes : List ℕ) → length bytes ≤ n → FitWithin w → IsUtf8 bytes → FitString (string_at w bytes)
unfolding string_at
string_fits zero plain [] h f u = tt
string_fits zero after_backslash [] h f u = tt
string_fits zero after_u [] h f u = tt
string_fits zero (after_high high) [] h f u = tt
string_fits zero w (x ∷ xs) h f u = absurd (omega arith)
string_fits (suc n) plain [] h f u = tt
string_fits (suc n) plain (x ∷ xs) h f u =
    let on = λ (l : List ℕ) (shorter : length l ≤ n) (v : IsUtf8 l). string_fits n plain l shorter tt v in
    let escapes = λ (v : IsUtf8 xs). string_fits n after_backslash xs (omega arith) tt v in
    ⊎_elim
    (λ low. let v = tail_utf8 x xs low u in
    either FitString (eqb x 34) _ _ (λ _. (IsUtf8-nil, v)) (λ _. either FitString (eqb x 92) _ _ (λ _. escapes v) (λ _. either FitString (ltb x 32) _ _ (λ _. tt) (λ _. fit_after (x ∷ []) _ (one_utf8 x low) (on xs (omega arith) v)))))
    (λ high. let w = wide_front x xs u.0 high u.1.0 u.1.1 in
    let long : length w.1 ≤ n = omega (arith, wide_length w.0 w.1, ap length w.5) in
    subst (λ l. FitString (string_at plain l)) w.5 (subst FitString (sym (plain_wide w.0 w.1 w.2)) (fit_after (encode_utf8 w.0) _ (IsUtf8-encode w.0 w.3) (on w.1 long w.4))))
    (cases_lt x 128)
string_fits (suc n) after_backslash [] h f u = tt
string_fits (suc n) after_backslash (x ∷ xs) h f u =
    let units = λ (v : IsUtf8 xs). string_fits n after_u xs (omega arith) tt v in
    let plains = λ (v : IsUtf8 xs). string_fits n plain xs (omega arith) tt v in
    let small = λ (e : eqb x 117 ≡ true). is_117 x e in
    either FitString (eqb x 117) _ _ (λ e. units (tail_utf8 x xs (small e) u)) (λ _. fit_escape x xs (short_escape x) refl u (λ low. plains (tail_utf8 x xs low u)))
  where
    is_117 : (x : ℕ) → eqb x 117 ≡ true → x < 128
    is_117 x e = grind (arith, nat_tests)
string_fits (suc n) after_u [] h f u = tt
string_fits (suc n) after_u (a ∷ []) h f u = tt
string_fits (suc n) after_u (a ∷ b ∷ []) h f u = tt
string_fits (suc n) after_u (a ∷ b ∷ c ∷ []) h f u = tt
string_fits (suc n) after_u (a ∷ b ∷ c ∷ d ∷ xs) h f u =
    let plains = λ (v : IsUtf8 xs). string_fits n plain xs (omega arith) tt v in
    let halves = λ (k : ℕ) (high : is_high_half k ≡ true) (v : IsUtf8 xs). string_fits n (after_high k) xs (omega arith) high v in
    by plains halves (code_unit a b c d) refl
  where
    by : (IsUtf8 xs → FitString (string_at plain xs)) → ((k : ℕ) → is_high_half k ≡ true → IsUtf8 xs → FitString (string_at (after_high k) xs)) → (o : Option ℕ) → code_unit a b c d ≡ o
        → FitString (option_and_then (λ u. cond (is_high_half u) (string_at (after_high u) xs) (cond (is_low_half u) None (after (encode_utf8 u) (string_at plain xs)))) o)
    by plains halves None e = tt
    by plains halves (Some k) e =
        let s = unit_digits a b c d k e in
        let v = four_on a b c d k xs s u in
        either FitString (is_high_half k) _ _ (λ high. halves k high v)
        (λ no_high. either FitString (is_low_half k) _ _ (λ _. tt) (λ no_low. fit_after (encode_utf8 k) _ (IsUtf8-encode k (scalar_unit k s.4 no_high no_low)) (plains v)))
string_fits (suc n) (after_high k) [] h f u = tt
string_fits (suc n) (after_high k) (s ∷ []) h f u = tt
string_fits (suc n) (after_high k) (s ∷ t ∷ []) h f u = tt
string_fits (suc n) (after_high k) (s ∷ t ∷ a ∷ []) h f u = tt
string_fits (suc n) (after_high k) (s ∷ t ∷ a ∷ b ∷ []) h f u = tt
string_fits (suc n) (after_high k) (s ∷ t ∷ a ∷ b ∷ c ∷ []) h f u = tt
string_fits (suc n) (after_high k) (s ∷ t ∷ a ∷ b ∷ c ∷ d ∷ xs) h f u =
    let plains = λ (v : IsUtf8 xs). string_fits n plain xs (omega arith) tt v in
    either FitString (eqb s 92 && eqb t 117) _ _ (λ e. by plains e (code_unit a b c d) refl) (λ _. tt)
  where
    is_escape : (x y : ℕ) → (eqb x 92 && eqb y 117) ≡ true → (x < 128) × (y < 128)
    is_escape x y e = grind (arith, nat_tests)

    by : (IsUtf8 xs → FitString (string_at plain xs)) → (eqb s 92 && eqb t 117) ≡ true → (o : Option ℕ) → code_unit a b c d ≡ o
        → FitString (option_and_then (λ l. cond (is_low_half l) (after (encode_utf8 (pair_char k l)) (string_at plain xs)) None) o)
    by plains e None g = tt
    by plains e (Some l) g =
        let i = is_escape s t e in
        let v = four_on a b c d l xs (unit_digits a b c d l g) (tail_utf8 t _ i.1 (tail_utf8 s _ i.0 u)) in
        either FitString (is_low_half l) _ _ (λ low. fit_after (encode_utf8 (pair_char k l)) _ (IsUtf8-encode _ (scalar_pair k l f low)) (plains v)) (λ _. tt)

-- ---- numerals

below : (b m n : ℕ) (t : Bool) → ltb m b ≡ t → cond t (Some m) None ≡ Some n → n < b
below b m n true e f = let same : m ≡ n = cc in subst (λ k. k < b) same (ltb-true m b e)
below b m n false e f = absurd (cc f)

ranged : (o : Option ℕ) (n : ℕ) → option_and_then in_range o ≡ Some n → n < 10 ^ 38
ranged None n e = absurd (cc e)
ranged (Some m) n e = below (10 ^ 38) m n (ltb m (10 ^ 38)) refl e

units_ranged : (d : Decimal) (n : ℕ) → units_of d ≡ Some n → n < 10 ^ 38
unfolding units_of
units_ranged d n e = ranged (scaled d.coefficient (d.power +ℤ pos 18)) n e

negated : (b n : ℕ) → n < b → nat_abs (neg_ℤ (pos n)) < b
negated b zero h = h
negated b (suc n) h = h

fit_unsigned : (sign : ℕ → ℤ) → ((n : ℕ) → n < 10 ^ 38 → IsNumber (sign n)) → (o : Option Decimal) → Fits (number_token (option_map (λ d. option_map sign (units_of d)) o))
fit_unsigned sign h None = tt
fit_unsigned sign h (Some d) = by (units_of d) refl
  where
    by : (o : Option ℕ) → units_of d ≡ o → Fits (number (option_map sign o))
    by None e = tt
    by (Some n) e = h n (units_ranged d n e)

numeral_fits : (w : List ℕ) → Fits (number_token (numeral w))
unfolding numeral
numeral_fits [] = tt
numeral_fits (x ∷ s) =
    either (λ o. Fits (number_token o)) (eqb x 45) _ _ (λ _. fit_unsigned (λ n. neg_ℤ (pos n)) (negated (10 ^ 38)) (unsigned s)) (λ _. fit_unsigned pos (λ n h. h) (unsigned (x ∷ s)))

-- ---- tokens

abbrev FitRead : Read → Type 0
FitRead r = Fits r.0 × IsUtf8 r.1

fit_string_token : (o : Option (List ℕ × List ℕ)) → FitString o → FitRead (string_token o)
fit_string_token None f = (tt, IsUtf8-nil)
fit_string_token (Some p) f = f

word_fits : (w : List ℕ) → Fits (word_token w)
word_fits w = either Fits (bytes_eq w _) _ _ (λ _. tt) (λ _. either Fits (bytes_eq w _) _ _ (λ _. tt) (λ _. either Fits (bytes_eq w _) _ _ (λ _. tt) (λ _. tt)))

is_byte : (x b : ℕ) → b < 128 → eqb x b ≡ true → x < 128
is_byte x b h e = grind (arith, nat_tests)

token_fits : (x : ℕ) (xs : List ℕ) → IsUtf8 (x ∷ xs) → FitRead (token_at (x ∷ xs))
unfolding token_at
token_fits x xs u =
    let one = λ (b : ℕ) (h : b < 128) (e : eqb x b ≡ true). tail_utf8 x xs (is_byte x b h e) u in
    either FitRead (eqb x 123) _ _ (λ e. (tt, one 123 (omega arith) e)) (λ _. either FitRead (eqb x 125) _ _ (λ e. (tt, one 125 (omega arith) e))
    (λ _. either FitRead (eqb x 91) _ _ (λ e. (tt, one 91 (omega arith) e)) (λ _. either FitRead (eqb x 93) _ _ (λ e. (tt, one 93 (omega arith) e))
    (λ _. either FitRead (eqb x 58) _ _ (λ e. (tt, one 58 (omega arith) e)) (λ _. either FitRead (eqb x 44) _ _ (λ e. (tt, one 44 (omega arith) e))
    (λ _. either FitRead (eqb x 34) _ _ (λ e. fit_string_token (string_at plain xs) (string_fits (length xs) plain xs (omega arith) tt (one 34 (omega arith) e)))
    (λ _. either FitRead (is_ascii_digit x || eqb x 45) _ _ (λ _. (numeral_fits (take (numeral_len (x ∷ xs)) (x ∷ xs)), drop_passed is_numeral_byte numeral_is_ascii (x ∷ xs) u))
    (λ _. either FitRead (is_letter x) _ _ (λ _. (word_fits (take (word_len (x ∷ xs)) (x ∷ xs)), drop_passed is_letter letter_is_ascii (x ∷ xs) u)) (λ _. (tt, IsUtf8-nil))))))))))

fits_from : (n at : ℕ) (bytes : List ℕ) → length bytes ≤ n → IsUtf8 bytes → AllFit (erased (tokens_from 0 at bytes))
unfolding tokens_from
fits_from n at [] h u = (tt, tt)
fits_from zero at (x ∷ xs) h u = absurd (omega arith)
fits_from (suc n) at (x ∷ xs) h u =
    let on = λ (at : ℕ) (l : List ℕ) (shorter : length l ≤ n) (v : IsUtf8 l). fits_from n at l shorter v in
    by on (is_blank x) refl
  where
    by : ((at : ℕ) (l : List ℕ) → length l ≤ n → IsUtf8 l → AllFit (erased (tokens_from 0 at l))) → (b : Bool) → is_blank x ≡ b → AllFit (erased (tokens_from 0 at (x ∷ xs)))
    by on true e = subst (λ b. AllFit (erased (cond b (tokens_from 0 (at + 1) xs) (record { at = at; token = (token_at (x ∷ xs)).0 } ∷ tokens_from (length xs - length (token_at (x ∷ xs)).1) (at + 1) xs)))) (sym e) (on (at + 1) xs (omega arith) (tail_utf8 x xs (blank_is_ascii x e) u))
    by on false e =
        let t = token_fits x xs u in
        let ends = token_ends x xs in
        let long : length (token_at (x ∷ xs)).1 ≤ n = omega (arith, ap length ends.1, length-append ends.0 (token_at (x ∷ xs)).1) in
        subst (λ ts. AllFit (erased ts)) (sym (token_next x xs at e)) (t.0, on _ (token_at (x ∷ xs)).1 long t.1)

pub tokens_fit : (bytes : List ℕ) → IsUtf8 bytes → AllFit (erased (tokens bytes))
tokens_fit bytes u = fits_from (length bytes) 0 bytes (omega arith) u
