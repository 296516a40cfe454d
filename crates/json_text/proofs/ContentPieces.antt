-- A string has a content exactly where it is unescaped characters, short escapes, `\uXXXX` and surrogate pairs.
use Rattle.std.proofs.Common.{◌≡◌, ℕ, zero, suc, ◌≤◌, List, [], ◌∷◌, ◌++◌, length, Bool, true, false, cond, eqb, ltb, ◌&&◌, Option, Some, None, option_and_then, encode_utf8, refl, sym, ap, ap₂, ◌∙◌, subst, append_assoc, arith}
use Rattle.std.proofs.lemmas.Bool.{and_parts}
use Rattle.std.proofs.lemmas.Bool.Decides.{nat_tests}
use Rattle.std.specs.List.{flat_map}
use Rattle.json_text.specs.Text.{after, after_u, after_backslash, after_high, short_escape, code_unit, is_high_half, is_low_half, pair_char, plain, string_at, Piece, unescaped, escape, unit, pair, IsPiece, written, stands_for, ArePieces, IsContent}
use Rattle.json_text.proofs.StringSteps.{plain_byte}

-- ---- what is written so has this content

no_u : (x c : ℕ) → short_escape x ≡ Some c → eqb x 117 ≡ false
no_u x c e = grind (arith, nat_tests)

one_piece : (p : Piece) (rest : List ℕ) → IsPiece p → string_at plain (written p ++ rest) ≡ after (stands_for p) (string_at plain rest)
unfolding string_at
one_piece (unescaped x) rest h = plain_byte x rest h.0 h.1 h.2
one_piece (escape x c) rest h =
    ap (λ b. cond b (string_at after_u rest) (option_and_then (λ c. after (c ∷ []) (string_at plain rest)) (short_escape x))) (no_u x c h) ∙ ap (option_and_then (λ c. after (c ∷ []) (string_at plain rest))) h
one_piece (unit a b c d u) rest h =
    ap (option_and_then (λ u. cond (is_high_half u) (string_at (after_high u) rest) (cond (is_low_half u) None (after (encode_utf8 u) (string_at plain rest))))) h.0
    ∙ ap₂ (λ x y. cond x (string_at (after_high u) rest) (cond y None (after (encode_utf8 u) (string_at plain rest)))) h.1 h.2
one_piece (pair a b c d k e f g i l) rest h =
    let tail = 92 ∷ 117 ∷ e ∷ f ∷ g ∷ i ∷ rest in
    ap (option_and_then (λ u. cond (is_high_half u) (string_at (after_high u) tail) (cond (is_low_half u) None (after (encode_utf8 u) (string_at plain tail))))) h.0
    ∙ ap (λ x. cond x (string_at (after_high k) tail) (cond (is_low_half k) None (after (encode_utf8 k) (string_at plain tail)))) h.1
    ∙ ap (option_and_then (λ l. cond (is_low_half l) (after (encode_utf8 (pair_char k l)) (string_at plain rest)) None)) h.2
    ∙ ap (λ x. cond x (after (encode_utf8 (pair_char k l)) (string_at plain rest)) None) h.3

closes : (rest : List ℕ) → string_at plain (34 ∷ rest) ≡ Some ([], rest)
unfolding string_at
closes rest = refl

all_pieces : (ps : List Piece) (rest : List ℕ) → ArePieces ps → string_at plain (flat_map written ps ++ 34 ∷ rest) ≡ Some (flat_map stands_for ps, rest)
all_pieces [] rest h = closes rest
all_pieces (p ∷ ps) rest h =
    ap (string_at plain) (append_assoc (written p) (flat_map written ps) (34 ∷ rest)) ∙ one_piece p (flat_map written ps ++ 34 ∷ rest) h.0 ∙ ap (after (stands_for p)) (all_pieces ps rest h.1)

pub content_where_pieces : (bytes content rest : List ℕ) → IsContent bytes content rest → string_at plain bytes ≡ Some (content, rest)
content_where_pieces bytes content rest c = ap (string_at plain) c.2 ∙ all_pieces c.0 rest c.1 ∙ ap (λ s. Some (s, rest)) (sym c.3)

-- ---- what has a content is written so

after_some : (bs : List ℕ) (o : Option (List ℕ × List ℕ)) (s rest : List ℕ) → after bs o ≡ Some (s, rest) → (t : List ℕ) × (o ≡ Some (t, rest)) × (s ≡ bs ++ t)
after_some bs None s rest e = absurd (cc e)
after_some bs (Some p) s rest e =
    let mine : List ℕ × List ℕ = (bs ++ p.0, p.1) in
    let theirs : List ℕ × List ℕ = (s, rest) in
    let pairs : mine ≡ theirs = cc e in
    (p.0, ap (λ r. Some (p.0, r)) (ap (λ q. q.1) pairs), sym (ap (λ q. q.0) pairs))

-- a piece more in front
piece_more : (p : Piece) (bytes tail s t rest : List ℕ) → IsPiece p → bytes ≡ written p ++ tail → s ≡ stands_for p ++ t → IsContent tail t rest → IsContent bytes s rest
piece_more p bytes tail s t rest h b e c =
    (p ∷ c.0, (h, c.1), b ∙ ap (λ l. written p ++ l) c.2 ∙ sym (append_assoc (written p) (flat_map written c.0) (34 ∷ rest)), e ∙ ap (λ l. stands_for p ++ l) c.3)

-- what the content of a shorter text gives
abbrev Shorter : ℕ → Type 0
Shorter n = (l s rest : List ℕ) → length l ≤ n → string_at plain l ≡ Some (s, rest) → IsContent l s rest

after_piece : (n : ℕ) (p : Piece) (bytes tail s rest : List ℕ) → Shorter n → length tail ≤ n → IsPiece p → bytes ≡ written p ++ tail → after (stands_for p) (string_at plain tail) ≡ Some (s, rest) → IsContent bytes s rest
after_piece n p bytes tail s rest on short h b e =
    let a = after_some (stands_for p) (string_at plain tail) s rest e in
    piece_more p bytes tail s a.0 rest h b a.2 (on tail a.0 rest short a.1)

is_test : (x y : ℕ) → eqb x y ≡ true → x ≡ y
is_test x y e = grind (arith, nat_tests)

no_test : (x y : ℕ) → eqb x y ≡ false → x ≡ y → ⊥
no_test x y e f = grind (arith, nat_tests)

no_less : (x y : ℕ) → ltb x y ≡ false → y ≤ x
no_less x y e = grind (arith, nat_tests)

pieces_escape : (n x : ℕ) (xs s rest : List ℕ) → Shorter n → length xs ≤ n → option_and_then (λ c. after (c ∷ []) (string_at plain xs)) (short_escape x) ≡ Some (s, rest) → IsContent (92 ∷ x ∷ xs) s rest
pieces_escape n x xs s rest on short e = by (short_escape x) refl e
  where
    by : (o : Option ℕ) → short_escape x ≡ o → option_and_then (λ c. after (c ∷ []) (string_at plain xs)) o ≡ Some (s, rest) → IsContent (92 ∷ x ∷ xs) s rest
    by None k e = absurd (cc e)
    by (Some c) k e = after_piece n (escape x c) (92 ∷ x ∷ xs) xs s rest on short k refl e

pieces_pair : (n a b c d h : ℕ) (xs s rest : List ℕ) → Shorter n → length xs ≤ n → code_unit a b c d ≡ Some h → is_high_half h ≡ true → string_at (after_high h) xs ≡ Some (s, rest) → IsContent (92 ∷ 117 ∷ a ∷ b ∷ c ∷ d ∷ xs) s rest
unfolding string_at
pieces_pair n a b c d h [] s rest on short k high e = absurd (cc e)
pieces_pair n a b c d h (x ∷ []) s rest on short k high e = absurd (cc e)
pieces_pair n a b c d h (x ∷ y ∷ []) s rest on short k high e = absurd (cc e)
pieces_pair n a b c d h (x ∷ y ∷ p ∷ []) s rest on short k high e = absurd (cc e)
pieces_pair n a b c d h (x ∷ y ∷ p ∷ q ∷ []) s rest on short k high e = absurd (cc e)
pieces_pair n a b c d h (x ∷ y ∷ p ∷ q ∷ r ∷ []) s rest on short k high e = absurd (cc e)
pieces_pair n a b c d h (x ∷ y ∷ p ∷ q ∷ r ∷ t ∷ xs) s rest on short k high e = by (eqb x 92 && eqb y 117) refl e
  where
    low : (l : ℕ) (v : Bool) → is_low_half l ≡ v → code_unit p q r t ≡ Some l → x ≡ 92 → y ≡ 117 → cond v (after (encode_utf8 (pair_char h l)) (string_at plain xs)) None ≡ Some (s, rest)
        → IsContent (92 ∷ 117 ∷ a ∷ b ∷ c ∷ d ∷ x ∷ y ∷ p ∷ q ∷ r ∷ t ∷ xs) s rest
    low l true is j f g e =
        after_piece n (pair a b c d h p q r t l) _ xs s rest on (omega (arith, short)) (k, high, j, is) (ap₂ (λ u v. 92 ∷ 117 ∷ a ∷ b ∷ c ∷ d ∷ u ∷ v ∷ p ∷ q ∷ r ∷ t ∷ xs) f g) e
    low l false is j f g e = absurd (cc e)

    unit_by : (o : Option ℕ) → code_unit p q r t ≡ o → x ≡ 92 → y ≡ 117 → option_and_then (λ l. cond (is_low_half l) (after (encode_utf8 (pair_char h l)) (string_at plain xs)) None) o ≡ Some (s, rest)
        → IsContent (92 ∷ 117 ∷ a ∷ b ∷ c ∷ d ∷ x ∷ y ∷ p ∷ q ∷ r ∷ t ∷ xs) s rest
    unit_by None j f g e = absurd (cc e)
    unit_by (Some l) j f g e = low l (is_low_half l) refl j f g e

    by : (v : Bool) → (eqb x 92 && eqb y 117) ≡ v → cond v (option_and_then (λ l. cond (is_low_half l) (after (encode_utf8 (pair_char h l)) (string_at plain xs)) None) (code_unit p q r t)) None ≡ Some (s, rest)
        → IsContent (92 ∷ 117 ∷ a ∷ b ∷ c ∷ d ∷ x ∷ y ∷ p ∷ q ∷ r ∷ t ∷ xs) s rest
    by true i e = let both = and_parts (eqb x 92) (eqb y 117) i in unit_by (code_unit p q r t) refl (is_test x 92 both.0) (is_test y 117 both.1) e
    by false i e = absurd (cc e)

pieces_unit : (n : ℕ) (xs s rest : List ℕ) → Shorter n → length xs ≤ n → string_at after_u xs ≡ Some (s, rest) → IsContent (92 ∷ 117 ∷ xs) s rest
unfolding string_at
pieces_unit n [] s rest on short e = absurd (cc e)
pieces_unit n (a ∷ []) s rest on short e = absurd (cc e)
pieces_unit n (a ∷ b ∷ []) s rest on short e = absurd (cc e)
pieces_unit n (a ∷ b ∷ c ∷ []) s rest on short e = absurd (cc e)
pieces_unit n (a ∷ b ∷ c ∷ d ∷ xs) s rest on short e = unit_by (code_unit a b c d) refl e
  where
    by : (u : ℕ) (v w : Bool) → is_high_half u ≡ v → is_low_half u ≡ w → code_unit a b c d ≡ Some u → cond v (string_at (after_high u) xs) (cond w None (after (encode_utf8 u) (string_at plain xs))) ≡ Some (s, rest)
        → IsContent (92 ∷ 117 ∷ a ∷ b ∷ c ∷ d ∷ xs) s rest
    by u true w high low k e = pieces_pair n a b c d u xs s rest on (omega (arith, short)) k high e
    by u false true high low k e = absurd (cc e)
    by u false false high low k e = after_piece n (unit a b c d u) _ xs s rest on (omega (arith, short)) (k, high, low) refl e

    unit_by : (o : Option ℕ) → code_unit a b c d ≡ o → option_and_then (λ u. cond (is_high_half u) (string_at (after_high u) xs) (cond (is_low_half u) None (after (encode_utf8 u) (string_at plain xs)))) o ≡ Some (s, rest)
        → IsContent (92 ∷ 117 ∷ a ∷ b ∷ c ∷ d ∷ xs) s rest
    unit_by None k e = absurd (cc e)
    unit_by (Some u) k e = by u (is_high_half u) (is_low_half u) refl refl k e

pieces_backslash : (n : ℕ) (xs s rest : List ℕ) → Shorter n → length xs ≤ n → string_at after_backslash xs ≡ Some (s, rest) → IsContent (92 ∷ xs) s rest
unfolding string_at
pieces_backslash n [] s rest on short e = absurd (cc e)
pieces_backslash n (x ∷ xs) s rest on short e = by (eqb x 117) refl e
  where
    by : (v : Bool) → eqb x 117 ≡ v → cond v (string_at after_u xs) (option_and_then (λ c. after (c ∷ []) (string_at plain xs)) (short_escape x)) ≡ Some (s, rest) → IsContent (92 ∷ x ∷ xs) s rest
    by true i e = subst (λ y. IsContent (92 ∷ y ∷ xs) s rest) (sym (is_test x 117 i)) (pieces_unit n xs s rest on (omega (arith, short)) e)
    by false i e = pieces_escape n x xs s rest on (omega (arith, short)) e

pieces_of : (n : ℕ) → Shorter n
unfolding string_at
pieces_of n [] s rest short e = absurd (cc e)
pieces_of zero (x ∷ xs) s rest short e = absurd (omega arith)
pieces_of (suc n) (x ∷ xs) s rest short e =
    let on : Shorter n = pieces_of n in
    by on (eqb x 34) (eqb x 92) (ltb x 32) refl refl refl e
  where
    by : Shorter n → (a b c : Bool) → eqb x 34 ≡ a → eqb x 92 ≡ b → ltb x 32 ≡ c → cond a (Some ([], xs)) (cond b (string_at after_backslash xs) (cond c None (after (x ∷ []) (string_at plain xs)))) ≡ Some (s, rest) → IsContent (x ∷ xs) s rest
    by on true b c i j k e =
        let mine : List ℕ × List ℕ = ([], xs) in
        let theirs : List ℕ × List ℕ = (s, rest) in
        let pairs : mine ≡ theirs = cc e in
        ([], tt, ap₂ (λ y l. y ∷ l) (is_test x 34 i) (ap (λ q. q.1) pairs), sym (ap (λ q. q.0) pairs))
    by on false true c i j k e = subst (λ y. IsContent (y ∷ xs) s rest) (sym (is_test x 92 j)) (pieces_backslash n xs s rest on (omega (arith, short)) e)
    by on false false true i j k e = absurd (cc e)
    by on false false false i j k e = after_piece n (unescaped x) (x ∷ xs) xs s rest on (omega (arith, short)) (no_test x 34 i, no_test x 92 j, no_less x 32 k) refl e

pub contents : (bytes content rest : List ℕ) → (string_at plain bytes ≡ Some (content, rest) → IsContent bytes content rest) × (IsContent bytes content rest → string_at plain bytes ≡ Some (content, rest))
contents bytes content rest = (pieces_of (length bytes) bytes content rest (omega arith), content_where_pieces bytes content rest)
