-- What is printed is UTF-8.
use Rattle.std.proofs.Common.{◌≡◌, ℕ, zero, suc, ◌<◌, ◌≤◌, Bool, true, ◌&&◌, nat_lt, List, [], ◌∷◌, ◌++◌, length, get_or, IsUtf8, inl, inr, refl, sym, ap, ap₂, ◌∙◌, subst, arith, append_assoc, append-nil, ltb-true}
use Rattle.std.proofs.lemmas.Bool.{and_parts, cases_lt, cases_eq, ne_eqb, le-ltb}
use Rattle.std.proofs.lemmas.Bool.Decides.{nat_tests}
use Rattle.std.proofs.lemmas.Str.{IsUtf8-append, IsUtf8-nil, IsUtf8-encode, encode_ascii, inside_one}
use Rattle.std.specs.List.{flat_map, list_all}
use lib.Utf8.{scalar, scalars, encode, encodes, low_scalar}
use Rattle.json_text.specs.Numeral.{is_numeral_byte}
use Rattle.json_text.specs.Print.{escaped, string_text}

ascii_then : (x : ℕ) (xs : List ℕ) → x < 128 → IsUtf8 xs → IsUtf8 (x ∷ xs)
ascii_then x xs small u = IsUtf8-append (x ∷ []) xs (subst IsUtf8 (encode_ascii x small) (IsUtf8-encode x (low_scalar x (omega arith)))) u

abbrev pub are_ascii : List ℕ → Bool
are_ascii [] = true
are_ascii (x ∷ xs) = nat_lt x 128 && are_ascii xs

pub utf8-ascii : (xs : List ℕ) → are_ascii xs ≡ true → IsUtf8 xs
utf8-ascii [] e = IsUtf8-nil
utf8-ascii (x ∷ xs) e = let p = and_parts _ _ e in ascii_then x xs (ltb-true _ _ p.0) (utf8-ascii xs p.1)

-- the escapes of the bytes below n are ASCII
abbrev escapes_below : ℕ → Bool
escapes_below zero = true
escapes_below (suc n) = are_ascii (escaped n) && escapes_below n

escape_below : (n : ℕ) → escapes_below n ≡ true → (x : ℕ) → x < n → are_ascii (escaped x) ≡ true
escape_below zero e x h = absurd (omega arith)
escape_below (suc n) e x h =
    let p = and_parts _ _ e in
    elim (cases_eq x n) [ inl same ↦ rw same p.0 | inr other ↦ escape_below n p.1 x (omega arith) ]

all_ascii : escapes_below 128 ≡ true
unfolding escaped
all_ascii = refl

escaped-append : (xs ys : List ℕ) → flat_map escaped (xs ++ ys) ≡ flat_map escaped xs ++ flat_map escaped ys
escaped-append [] ys = refl
escaped-append (x ∷ xs) ys = ap (λ l. escaped x ++ l) (escaped-append xs ys) ∙ sym (append_assoc (escaped x) _ _)

escaped_wide : (x : ℕ) → 128 ≤ x → escaped x ≡ x ∷ []
unfolding escaped
escaped_wide x h =
    rw (
      ne_eqb x 34 (λ e. omega arith),
      ne_eqb x 92 (λ e. omega arith),
      ne_eqb x 8 (λ e. omega arith),
      ne_eqb x 9 (λ e. omega arith),
      ne_eqb x 10 (λ e. omega arith),
      ne_eqb x 12 (λ e. omega arith),
      ne_eqb x 13 (λ e. omega arith),
      le-ltb x 32 (omega arith),
    )

escaped_high : (xs : List ℕ) → ((k : ℕ) → k < length xs → 128 ≤ get_or xs k 0) → flat_map escaped xs ≡ xs
escaped_high [] h = refl
escaped_high (x ∷ xs) h = ap₂ (λ (a b : List ℕ). a ++ b) (escaped_wide x (h 0 (omega arith))) (escaped_high xs (λ k below. h (suc k) (omega arith)))

one_char : (c : ℕ) → scalar c ≡ true → IsUtf8 (flat_map escaped (encode c))
one_char c ok = elim (cases_lt c 128) [
  | inl small ↦ rw (encode_ascii c small, append-nil) (utf8-ascii _ (escape_below 128 all_ascii c small))
  | inr big ↦
      let high : (k : ℕ) → k < length (encode c) → 128 ≤ get_or (encode c) k 0 = λ k below. elim (cases_lt (get_or (encode c) k 0) 128) [
        | inl low ↦ absurd (omega (arith, inside_one c [] (encode c) k (sym (append-nil _)) below low))
        | inr h ↦ h
      ] in
      subst IsUtf8 (sym (escaped_high (encode c) high)) (IsUtf8-encode c ok)
]

all_chars : (cs : List ℕ) → scalars cs ≡ true → IsUtf8 (flat_map escaped (encodes cs))
all_chars [] e = IsUtf8-nil
all_chars (c ∷ cs) e =
    let p = and_parts _ _ e in
    subst IsUtf8 (sym (escaped-append (encode c) (encodes cs))) (IsUtf8-append _ _ (one_char c p.0) (all_chars cs p.1))

pub utf8-string : (s : List ℕ) → IsUtf8 s → IsUtf8 (string_text s)
utf8-string s u = ascii_then 34 _ (omega arith) (IsUtf8-append _ _ (subst (λ l. IsUtf8 (flat_map escaped l)) u.1.1 (all_chars u.0 u.1.0)) (utf8-ascii (34 ∷ []) refl))

numeral_ascii : (x : ℕ) → is_numeral_byte x ≡ true → nat_lt x 128 ≡ true
numeral_ascii x h = grind (arith, nat_tests)

pub utf8-numeral : (xs : List ℕ) → list_all is_numeral_byte xs ≡ true → IsUtf8 xs
utf8-numeral [] e = IsUtf8-nil
utf8-numeral (x ∷ xs) e = let p = and_parts (is_numeral_byte x) (list_all is_numeral_byte xs) e in ascii_then x xs (ltb-true x 128 (numeral_ascii x p.0)) (utf8-numeral xs p.1)
