-- Tokens, one after another.
use Rattle.std.proofs.Common.{◌≡◌, ℕ, zero, suc, ◌+◌, ◌-◌, ◌≤◌, List, [], ◌∷◌, ◌++◌, length, take, drop, Bool, true, false, cond, ◌||◌, eqb, ltb, Option, Some, None, option_and_then, encode_utf8, ◌&&◌, refl, sym, ap, ◌∙◌, arith}
use Rattle.std.proofs.lemmas.List.{append-nil, length-append}
use Rattle.std.proofs.Math.Seq.{drop-append_seam}
use Rattle.std.proofs.lemmas.Bool.Decides.{nat_tests}
use Rattle.std.specs.List.{prefix_len}
use Rattle.std.specs.Char.{is_ascii_digit}
use Rattle.json_text.specs.Text.{Within, plain, after_backslash, after_u, after_high, after, short_escape, code_unit, is_high_half, is_low_half, pair_char, string_at}
use Rattle.json_text.specs.Numeral.{is_numeral_byte}
use Rattle.json_text.specs.Lex.{is_blank, Read, string_token, numeral_at, is_letter, word_at, token_at, tokens_from}

-- the bytes end in the rest
abbrev pub EndsIn : List ℕ → List ℕ → Type 0
EndsIn bytes rest = (front : List ℕ) × (bytes ≡ front ++ rest)

one_more : (x : ℕ) (xs rest : List ℕ) → EndsIn xs rest → EndsIn (x ∷ xs) rest
one_more x xs rest h = (x ∷ h.0, ap (λ l. x ∷ l) h.1)

abbrev SomeEndsIn : List ℕ → Option (List ℕ × List ℕ) → Type 0
SomeEndsIn bytes None = Unit {0}
SomeEndsIn bytes (Some p) = EndsIn bytes p.1

ends_after : (bytes : List ℕ) (x : ℕ) (xs : List ℕ) (r : Option (List ℕ × List ℕ)) → SomeEndsIn xs r → SomeEndsIn (x ∷ xs) (after bytes r)
ends_after bytes x xs None h = tt
ends_after bytes x xs (Some p) h = one_more x xs p.1 h

ends_more : (x : ℕ) (xs : List ℕ) (r : Option (List ℕ × List ℕ)) → SomeEndsIn xs r → SomeEndsIn (x ∷ xs) r
ends_more x xs None h = tt
ends_more x xs (Some p) h = one_more x xs p.1 h

ends_escape : (o : Option ℕ) (x : ℕ) (xs : List ℕ) → SomeEndsIn xs (string_at plain xs) → SomeEndsIn (x ∷ xs) (option_and_then (λ c. after (c ∷ []) (string_at plain xs)) o)
ends_escape None x xs h = tt
ends_escape (Some c) x xs h = ends_after (c ∷ []) x xs (string_at plain xs) h

-- one of two, with what the test says
module _ {A : Type 0} (P : A → Type 0) where
  pub either : (b : Bool) (x y : A) → (b ≡ true → P x) → (b ≡ false → P y) → P (cond b x y)
  either true x y h k = h refl
  either false x y h k = k refl

ends_four : (a b c d : ℕ) (xs : List ℕ) (r : Option (List ℕ × List ℕ)) → SomeEndsIn xs r → SomeEndsIn (a ∷ b ∷ c ∷ d ∷ xs) r
ends_four a b c d xs r h = ends_more a _ r (ends_more b _ r (ends_more c _ r (ends_more d xs r h)))

ends_after_all : (bytes xs : List ℕ) (r : Option (List ℕ × List ℕ)) → SomeEndsIn xs r → SomeEndsIn xs (after bytes r)
ends_after_all bytes xs None h = tt
ends_after_all bytes xs (Some p) h = h

ends_unit : (o : Option ℕ) (xs : List ℕ) → SomeEndsIn xs (string_at plain xs) → ((u : ℕ) → SomeEndsIn xs (string_at (after_high u) xs))
    → SomeEndsIn xs (option_and_then (λ u. cond (is_high_half u) (string_at (after_high u) xs) (cond (is_low_half u) None (after (encode_utf8 u) (string_at plain xs)))) o)
ends_unit None xs h k = tt
ends_unit (Some u) xs h k = either (SomeEndsIn xs) (is_high_half u) _ _ (λ _. k u) (λ _. either (SomeEndsIn xs) (is_low_half u) _ _ (λ _. tt) (λ _. ends_after_all (encode_utf8 u) xs _ h))

ends_low : (high : ℕ) (o : Option ℕ) (xs : List ℕ) → SomeEndsIn xs (string_at plain xs)
    → SomeEndsIn xs (option_and_then (λ l. cond (is_low_half l) (after (encode_utf8 (pair_char high l)) (string_at plain xs)) None) o)
ends_low high None xs h = tt
ends_low high (Some l) xs h = either (SomeEndsIn xs) (is_low_half l) _ _ (λ _. ends_after_all (encode_utf8 (pair_char high l)) xs _ h) (λ _. tt)

pub string_ends : (w : Within) (xs : List ℕ) → SomeEndsIn xs (string_at w xs)
unfolding string_at
string_ends plain [] = tt
string_ends after_backslash [] = tt
string_ends plain (x ∷ xs) =
    let P : Option (List ℕ × List ℕ) → Type 0 = SomeEndsIn (x ∷ xs) in
    let plains = string_ends plain xs in
    let escapes = string_ends after_backslash xs in
    either P (eqb x 34) _ _ (λ _. (x ∷ [], refl)) (λ _. either P (eqb x 92) _ _ (λ _. ends_more x xs _ escapes) (λ _. either P (ltb x 32) _ _ (λ _. tt) (λ _. ends_after (x ∷ []) x xs _ plains)))
string_ends after_backslash (x ∷ xs) =
    let units = string_ends after_u xs in
    let plains = string_ends plain xs in
    either (SomeEndsIn (x ∷ xs)) (eqb x 117) _ _ (λ _. ends_more x xs _ units) (λ _. ends_escape (short_escape x) x xs plains)
string_ends after_u (a ∷ b ∷ c ∷ d ∷ xs) =
    let plains = string_ends plain xs in
    let lows = λ (u : ℕ). string_ends (after_high u) xs in
    ends_four a b c d xs _ (ends_unit (code_unit a b c d) xs plains lows)
string_ends (after_high high) (s ∷ u ∷ a ∷ b ∷ c ∷ d ∷ xs) =
    let plains = string_ends plain xs in
    either (SomeEndsIn (s ∷ u ∷ a ∷ b ∷ c ∷ d ∷ xs)) (eqb s 92 && eqb u 117) _ _
    (λ _. ends_more s _ _ (ends_more u _ _ (ends_four a b c d xs _ (ends_low high (code_unit a b c d) xs plains))))
    (λ _. tt)
string_ends w xs = tt

string_token_ends : (xs : List ℕ) (r : Option (List ℕ × List ℕ)) → SomeEndsIn xs r → EndsIn xs (string_token r).1
string_token_ends xs None h = (xs, sym (append-nil xs))
string_token_ends xs (Some p) h = h

take_drop : (n : ℕ) (xs : List ℕ) → xs ≡ take n xs ++ drop n xs
take_drop zero xs = refl
take_drop (suc n) [] = refl
take_drop (suc n) (x ∷ xs) = ap (λ l. x ∷ l) (take_drop n xs)

starts_numeral : (x : ℕ) → (is_ascii_digit x || eqb x 45) ≡ true → is_numeral_byte x ≡ true
starts_numeral x h = grind (arith, nat_tests)

drop_cond : (x : ℕ) (xs : List ℕ) (n : ℕ) (b : Bool) → b ≡ true → EndsIn xs (drop (cond b (1 + n) 0) (x ∷ xs))
drop_cond x xs n true e = let next : 1 + n ≡ suc n = omega arith in (take n xs, take_drop n xs ∙ ap (λ k. take n xs ++ drop k (x ∷ xs)) (sym next))
drop_cond x xs n false e = absurd (cc e)

word_ends : (x : ℕ) (xs : List ℕ) → is_letter x ≡ true → EndsIn xs (word_at (x ∷ xs)).1
word_ends x xs h = drop_cond x xs (prefix_len is_letter xs) (is_letter x) h

numeral_ends : (x : ℕ) (xs : List ℕ) → is_numeral_byte x ≡ true → EndsIn xs (numeral_at (x ∷ xs)).1
numeral_ends x xs h = drop_cond x xs (prefix_len is_numeral_byte xs) (is_numeral_byte x) h

-- a token has a byte at least
pub token_ends : (x : ℕ) (xs : List ℕ) → EndsIn xs (token_at (x ∷ xs)).1
unfolding token_at
token_ends x xs =
    let P : Read → Type 0 = λ r. EndsIn xs r.1 in
    let one : EndsIn xs xs = ([], refl) in
    either P (eqb x 123) _ _ (λ _. one) (λ _. either P (eqb x 125) _ _ (λ _. one) (λ _. either P (eqb x 91) _ _ (λ _. one) (λ _. either P (eqb x 93) _ _ (λ _. one) (λ _. either P (eqb x 58) _ _ (λ _. one) (λ _. either P (eqb x 44) _ _ (λ _. one)
    (λ _. either P (eqb x 34) _ _ (λ _. string_token_ends xs _ (string_ends plain xs))
    (λ _. either P (is_ascii_digit x || eqb x 45) _ _ (λ h. numeral_ends x xs (starts_numeral x h)) (λ _. either P (is_letter x) _ _ (λ h. word_ends x xs h) (λ _. (xs, sym (append-nil xs)))))))))))

-- ---- the list of tokens

pub skipped : (left at : ℕ) (bs : List ℕ) → left ≤ length bs → tokens_from left at bs ≡ tokens_from 0 (at + left) (drop left bs)
unfolding tokens_from
skipped zero at bs h = let e : at ≡ at + 0 = omega arith in ap (λ n. tokens_from 0 n bs) e
skipped (suc n) at [] h = absurd (omega arith)
skipped (suc n) at (x ∷ xs) h = let e : at + 1 + n ≡ at + suc n = omega arith in skipped n (at + 1) xs (omega arith) ∙ ap (λ k. tokens_from 0 k (drop n xs)) e

blank_more : (x : ℕ) (xs : List ℕ) (at : ℕ) (b : Bool) → is_blank x ≡ b → tokens_from 0 (at + 1) xs ≡ tokens_from 0 (at + 1 + prefix_len is_blank xs) (drop (prefix_len is_blank xs) xs)
    → tokens_from 0 at (x ∷ xs) ≡ tokens_from 0 (at + cond b (1 + prefix_len is_blank xs) 0) (drop (cond b (1 + prefix_len is_blank xs) 0) (x ∷ xs))
unfolding tokens_from
blank_more x xs at true e rest =
    let n = prefix_len is_blank xs in
    let next : 1 + n ≡ suc n = omega arith in
    let sum : at + 1 + n ≡ at + (1 + n) = omega arith in
    ap (λ b. cond b (tokens_from 0 (at + 1) xs) (record { at = at; token = (token_at (x ∷ xs)).0 } ∷ tokens_from (length xs - length (token_at (x ∷ xs)).1) (at + 1) xs)) e
    ∙ rest ∙ ap (λ m. tokens_from 0 m (drop n xs)) sum ∙ ap (λ k. tokens_from 0 (at + (1 + n)) (drop k (x ∷ xs))) (sym next)
blank_more x xs at false e rest = let same : at ≡ at + 0 = omega arith in ap (λ n. tokens_from 0 n (x ∷ xs)) same

-- blanks stand for nothing
pub blanks_passed : (bs : List ℕ) (at : ℕ) → tokens_from 0 at bs ≡ tokens_from 0 (at + prefix_len is_blank bs) (drop (prefix_len is_blank bs) bs)
blanks_passed [] at = let e : at ≡ at + 0 = omega arith in ap (λ n. tokens_from 0 n []) e
blanks_passed (x ∷ xs) at = blank_more x xs at (is_blank x) refl (blanks_passed xs (at + 1))

-- the next token, where no blank stands before it
pub token_next : (x : ℕ) (xs : List ℕ) (at : ℕ) → is_blank x ≡ false
    → tokens_from 0 at (x ∷ xs) ≡ record { at = at; token = (token_at (x ∷ xs)).0 } ∷ tokens_from 0 (at + (length (x ∷ xs) - length (token_at (x ∷ xs)).1)) (token_at (x ∷ xs)).1
unfolding tokens_from
token_next x xs at e =
    let rest = (token_at (x ∷ xs)).1 in
    let ends = token_ends x xs in
    let n = length xs - length rest in
    let long : length xs ≡ length ends.0 + length rest = ap length ends.1 ∙ length-append ends.0 rest in
    let n_is : n ≡ length ends.0 = omega arith in
    let sum : at + 1 + n ≡ at + (length (x ∷ xs) - length rest) = omega arith in
    let left : drop n xs ≡ rest = ap (drop n) ends.1 ∙ ap (λ k. drop k (ends.0 ++ rest)) n_is ∙ drop-append_seam ends.0 rest in
    ap (λ b. cond b (tokens_from 0 (at + 1) xs) (record { at = at; token = (token_at (x ∷ xs)).0 } ∷ tokens_from n (at + 1) xs)) e
    ∙ ap (λ ts. record { at = at; token = (token_at (x ∷ xs)).0 } ∷ ts) (skipped n (at + 1) xs (omega arith) ∙ ap (λ m. tokens_from 0 m (drop n xs)) sum ∙ ap (tokens_from 0 (at + (length (x ∷ xs) - length rest))) left)
