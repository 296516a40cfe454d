-- Strings, as they are written.
use Rattle.std.proofs.Common.{◌≡◌, ℕ, ◌+◌, ◌*◌, ◌/◌, ◌%◌, ◌<◌, List, [], ◌∷◌, ◌++◌, true, false, cond, ◌&&◌, eqb, ltb, encode_utf8, Some, None, option_and_then, refl, sym, ap, ap₂, ◌∙◌, arith, append_assoc}
use Rattle.std.proofs.lemmas.Bool.{lt-ltb, eqb-true, ltb-true}
use Rattle.std.proofs.lemmas.Bool.Decides.{nat_tests}
use Rattle.std.proofs.lemmas.Str.{digit_value-digit_char, encode_ascii}
use Rattle.std.specs.List.{flat_map}
use Rattle.std.specs.Char.{digit_char, digit_value, is_digit}
use Rattle.json_text.specs.Text.{plain, after_backslash, after_high, after, code_unit, is_high_half, is_low_half, string_at}
use Rattle.json_text.specs.Print.{escaped}
use Rattle.json_text.proofs.Lexing.{either}

abbrev Passes : ℕ → List ℕ → List ℕ → Type 0
Passes x ys bytes = string_at plain (bytes ++ ys) ≡ after (x ∷ []) (string_at plain ys)

is_hex : (d : ℕ) → d < 16 → is_digit (digit_char d) 16 ≡ true
is_hex d h = ap (λ v. ltb v 16) (digit_value-digit_char d (omega arith)) ∙ lt-ltb d 16 h

control_unit : (x : ℕ) → x < 32 → code_unit 48 48 (digit_char (x / 16)) (digit_char (x % 16)) ≡ Some x
control_unit x h =
    let high : x / 16 < 16 = omega arith in
    let low : x % 16 < 16 = omega arith in
    let sum : 0 * 4096 + 0 * 256 + x / 16 * 16 + x % 16 ≡ x = omega arith in
    (λ i. cond (true && (true && (is_hex (x / 16) high i && is_hex (x % 16) low i))) (Some (0 * 4096 + 0 * 256 + digit_value (digit_char (x / 16)) * 16 + digit_value (digit_char (x % 16)))) None)
    ∙ ap₂ (λ a b. Some (0 * 4096 + 0 * 256 + a * 16 + b)) (digit_value-digit_char (x / 16) (omega arith)) (digit_value-digit_char (x % 16) (omega arith)) ∙ ap Some sum

no_half : (x : ℕ) → x < 32 → is_high_half x ≡ false
no_half x h = grind (arith, nat_tests)

no_low_half : (x : ℕ) → x < 32 → is_low_half x ≡ false
no_low_half x h = grind (arith, nat_tests)

control_passes : (x : ℕ) (ys : List ℕ) → x < 32 → Passes x ys (92 ∷ 117 ∷ 48 ∷ 48 ∷ digit_char (x / 16) ∷ digit_char (x % 16) ∷ [])
unfolding string_at
control_passes x ys h =
    ap (λ o. option_and_then (λ u. cond (is_high_half u) (string_at (after_high u) ys) (cond (is_low_half u) None (after (encode_utf8 u) (string_at plain ys)))) o) (control_unit x h)
    ∙ ap₂ (λ a b. cond a (string_at (after_high x) ys) (cond b None (after (encode_utf8 x) (string_at plain ys)))) (no_half x h) (no_low_half x h)
    ∙ ap (λ l. after l (string_at plain ys)) (encode_ascii x (omega arith))

plain_passes : (x : ℕ) (ys : List ℕ) → eqb x 34 ≡ false → eqb x 92 ≡ false → ltb x 32 ≡ false → Passes x ys (x ∷ [])
unfolding string_at
plain_passes x ys q b c = λ i. cond (q i) (Some ([], ys)) (cond (b i) (string_at after_backslash ys) (cond (c i) None (after (x ∷ []) (string_at plain ys))))

short_passes : (x y c : ℕ) (ys : List ℕ) → eqb x y ≡ true → string_at plain (92 ∷ c ∷ ys) ≡ after (y ∷ []) (string_at plain ys) → Passes x ys (92 ∷ c ∷ [])
short_passes x y c ys h e = e ∙ ap (λ z. after (z ∷ []) (string_at plain ys)) (sym (eqb-true x y h))

passes : (x : ℕ) (ys : List ℕ) → Passes x ys (escaped x)
unfolding string_at escaped
passes x ys =
    let P : List ℕ → Type 0 = Passes x ys in
    either P (eqb x 34) _ _ (λ h. short_passes x 34 34 ys h refl)
    (λ q. either P (eqb x 92) _ _ (λ h. short_passes x 92 92 ys h refl)
    (λ b. either P (eqb x 8) _ _ (λ h. short_passes x 8 98 ys h refl)
    (λ _. either P (eqb x 9) _ _ (λ h. short_passes x 9 116 ys h refl)
    (λ _. either P (eqb x 10) _ _ (λ h. short_passes x 10 110 ys h refl)
    (λ _. either P (eqb x 12) _ _ (λ h. short_passes x 12 102 ys h refl)
    (λ _. either P (eqb x 13) _ _ (λ h. short_passes x 13 114 ys h refl)
    (λ _. either P (ltb x 32) _ _ (λ h. control_passes x ys (ltb-true x 32 h)) (λ c. plain_passes x ys q b c))))))))

-- a string is read as it was
pub content_again : (s rest : List ℕ) → string_at plain (flat_map escaped s ++ 34 ∷ rest) ≡ Some (s, rest)
unfolding string_at
content_again [] rest = refl
content_again (x ∷ s) rest = ap (string_at plain) (append_assoc (escaped x) (flat_map escaped s) (34 ∷ rest)) ∙ passes x (flat_map escaped s ++ 34 ∷ rest) ∙ ap (after (x ∷ [])) (content_again s rest)
