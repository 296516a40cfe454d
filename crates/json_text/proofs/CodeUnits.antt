-- Escapes by code units.
use Rattle.std.proofs.Common.{◌≡◌, ℕ, ◌<◌, ◌≤◌, List, [], ◌∷◌, ◌++◌, length, Option, Some, None, option_map, option_and_then, Bool, true, false, cond, ◌&&◌, eqb, refl, sym, ap, ◌∙◌, arith, encode_utf8}
use Rattle.std.proofs.lemmas.Bool.{ne_eqb}
use Rattle.json_text.specs.Text.{Within, code_unit, is_high_half, is_low_half, pair_char, string_at, plain, after_u, after_high, after}
use Rattle.json_text.specs.Unescaped.{IsUnescaped, unit_at, escaped_unit_at}
use Rattle.json_text.specs.declared.token.string.Unescaped.{Unescaped}
use Rattle.json_text.specs.declared.token.string.Unescaped.TheVariants.{Closing, Char, Malformed}
use Rattle.json_text.proofs.Wide.{wide_first}

and_then-map : {A B C : Type 0} (g : A → B) (f : B → Option C) (o : Option A) → option_and_then f (option_map g o) ≡ option_and_then (λ x. f (g x)) o
and_then-map g f None = refl
and_then-map g f (Some x) = refl

-- ---- the string after `\u`, by its code unit

pub after_unit : ℕ × List ℕ → Option (List ℕ × List ℕ)
after_unit p = cond (is_high_half p.0) (string_at (after_high p.0) p.1) (cond (is_low_half p.0) None (after (encode_utf8 p.0) (string_at plain p.1)))

pub after_u_is : (bytes : List ℕ) → string_at after_u bytes ≡ option_and_then after_unit (unit_at bytes)
unfolding string_at after_unit
after_u_is [] = refl
after_u_is (a ∷ []) = refl
after_u_is (a ∷ b ∷ []) = refl
after_u_is (a ∷ b ∷ c ∷ []) = refl
after_u_is (a ∷ b ∷ c ∷ d ∷ xs) = sym (and_then-map (λ u. (u, xs)) after_unit (code_unit a b c d))

pub after_low : ℕ → ℕ × List ℕ → Option (List ℕ × List ℕ)
after_low h p = cond (is_low_half p.0) (after (encode_utf8 (pair_char h p.0)) (string_at plain p.1)) None

none_twice : {A B : Type 0} (f : A → Option B) (b : Bool) → None ≡ option_and_then f (cond b None None)
none_twice f true = refl
none_twice f false = refl

high_by : (h a b c d : ℕ) (xs : List ℕ) (t : Bool)
    → cond t (option_and_then (λ l. cond (is_low_half l) (after (encode_utf8 (pair_char h l)) (string_at plain xs)) None) (code_unit a b c d)) None ≡ option_and_then (after_low h) (cond t (option_map (λ u. (u, xs)) (code_unit a b c d)) None)
unfolding after_low
high_by h a b c d xs true = sym (and_then-map (λ u. (u, xs)) (after_low h) (code_unit a b c d))
high_by h a b c d xs false = refl

pub after_high_is : (h : ℕ) (bytes : List ℕ) → string_at (after_high h) bytes ≡ option_and_then (after_low h) (escaped_unit_at bytes)
unfolding string_at
after_high_is h [] = refl
after_high_is h (s ∷ []) = refl
after_high_is h (s ∷ u ∷ []) = none_twice (after_low h) _
after_high_is h (s ∷ u ∷ a ∷ []) = none_twice (after_low h) _
after_high_is h (s ∷ u ∷ a ∷ b ∷ []) = none_twice (after_low h) _
after_high_is h (s ∷ u ∷ a ∷ b ∷ c ∷ []) = none_twice (after_low h) _
after_high_is h (s ∷ u ∷ a ∷ b ∷ c ∷ d ∷ xs) = high_by h a b c d xs _

-- ---- code units at the front

pub no_backslash : (s : ℕ) (xs : List ℕ) → (s ≡ 92 → ⊥) → escaped_unit_at (s ∷ xs) ≡ None
no_backslash s [] n = refl
no_backslash s (u ∷ xs) n = ap (λ b. cond (b && eqb u 117) (unit_at xs) None) (ne_eqb s 92 n)

pub no_u : (u : ℕ) (xs : List ℕ) → (u ≡ 117 → ⊥) → escaped_unit_at (92 ∷ u ∷ xs) ≡ None
no_u u xs n = ap (λ b. cond b (unit_at xs) None) (ne_eqb u 117 n)

pub wide_unit : (c : ℕ) (rest : List ℕ) → 128 ≤ c → escaped_unit_at (encode_utf8 c ++ rest) ≡ None
wide_unit c rest wide = let w = wide_first c rest wide in ap escaped_unit_at w.2 ∙ no_backslash w.0 w.1 (λ e. absurd (omega (arith, w.3)))

pub wide_unit_next : (c : ℕ) (rest : List ℕ) → 128 ≤ c → escaped_unit_at (92 ∷ (encode_utf8 c ++ rest)) ≡ None
wide_unit_next c rest wide = let w = wide_first c rest wide in ap (λ l. escaped_unit_at (92 ∷ l)) w.2 ∙ no_u w.0 w.1 (λ e. absurd (omega (arith, w.3)))

pub ruleset unit_laws = (no_backslash, no_u, wide_unit, wide_unit_next)

-- ---- the same, one case at a time

module _ (bytes : List ℕ) where
  pub unicode_none : unit_at bytes ≡ None → string_at after_u bytes ≡ None
  unicode_none e = after_u_is bytes ∙ ap (option_and_then after_unit) e

  pub low_none : (h : ℕ) → escaped_unit_at bytes ≡ None → string_at (after_high h) bytes ≡ None
  low_none h e = after_high_is h bytes ∙ ap (option_and_then (after_low h)) e

  module _ (u : ℕ) (xs : List ℕ) where
    pub unicode_high : unit_at bytes ≡ Some (u, xs) → is_high_half u ≡ true → string_at after_u bytes ≡ string_at (after_high u) xs
    unfolding after_unit
    unicode_high e h = after_u_is bytes ∙ ap (option_and_then after_unit) e ∙ ap (λ b. cond b (string_at (after_high u) xs) (cond (is_low_half u) None (after (encode_utf8 u) (string_at plain xs)))) h

    pub unicode_low : unit_at bytes ≡ Some (u, xs) → is_high_half u ≡ false → is_low_half u ≡ true → string_at after_u bytes ≡ None
    unfolding after_unit
    unicode_low e h l = after_u_is bytes ∙ ap (option_and_then after_unit) e ∙ (λ i. cond (h i) (string_at (after_high u) xs) (cond (l i) None (after (encode_utf8 u) (string_at plain xs))))

    pub unicode_char : unit_at bytes ≡ Some (u, xs) → is_high_half u ≡ false → is_low_half u ≡ false → string_at after_u bytes ≡ after (encode_utf8 u) (string_at plain xs)
    unfolding after_unit
    unicode_char e h l = after_u_is bytes ∙ ap (option_and_then after_unit) e ∙ (λ i. cond (h i) (string_at (after_high u) xs) (cond (l i) None (after (encode_utf8 u) (string_at plain xs))))

    pub low_not : (h : ℕ) → escaped_unit_at bytes ≡ Some (u, xs) → is_low_half u ≡ false → string_at (after_high h) bytes ≡ None
    unfolding after_low
    low_not h e l = after_high_is h bytes ∙ ap (option_and_then (after_low h)) e ∙ ap (λ b. cond b (after (encode_utf8 (pair_char h u)) (string_at plain xs)) None) l

    pub low_char : (h : ℕ) → escaped_unit_at bytes ≡ Some (u, xs) → is_low_half u ≡ true → string_at (after_high h) bytes ≡ after (encode_utf8 (pair_char h u)) (string_at plain xs)
    unfolding after_low
    low_char h e l = after_high_is h bytes ∙ ap (option_and_then (after_low h)) e ∙ ap (λ b. cond b (after (encode_utf8 (pair_char h u)) (string_at plain xs)) None) l

-- a part of what is left is a part of the whole
pub same_part : (p : Unescaped) (v w : Within) (bytes rest : List ℕ) → string_at v bytes ≡ string_at w rest → length rest < length bytes → IsUnescaped w rest p → IsUnescaped v bytes p
same_part (Closing after) v w bytes rest e l h = e ∙ h
same_part (Char c after) v w bytes rest e l h = (e ∙ h.0, omega (arith, l, h.1))
same_part Malformed v w bytes rest e l h = e ∙ h
