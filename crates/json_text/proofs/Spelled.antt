-- What a text spells is writable, and of no more levels than the text.
use Rattle.std.proofs.Common.{◌≡◌, ℕ, zero, suc, ◌/◌, ◌%◌, ◌^◌, ◌≤◌, ℤ, pos, negsuc, neg_ℤ, List, [], ◌∷◌, ◌++◌, max, Bool, true, false, cond, ◌&&◌, ◌||◌, ltb, leb, eqb, Option, Some, None, refl, ap, ◌∙◌, arith, subst, ltb-true}
use Rattle.std.proofs.lemmas.Bool.Decides.{nat_tests}
use Rattle.std.specs.List.{list_any}
use Rattle.std.specs.Str.{bytes_eq, IsUtf8}
use Rattle.json_tree.specs.Tree.{Tree, Members, no_members, member, members_of, list_of_members}
use Rattle.json_tree.specs.Members.{put_member}
use Rattle.json_tree.specs.Tree as tree
use Rattle.json_text.specs.Token.{Token, end}
use Rattle.json_text.specs.Grammar.{Json, null, boolean, number, string, array, object, Fields, no_fields, field, tokens_of, elements_tokens, more_elements, fields_tokens, more_fields, text_tokens, levels, fields_levels, date_or_object, object_value, tree_of, with_fields, erased, Spells, Reads}
use Rattle.json_text.specs.Grammar as json
use Rattle.json_tree.specs.Dates.{whole_i64, date_of}
use Rattle.json_tree.specs.Writable.{tree_levels, elements_levels, members_levels, IsI64, IsWritable, AreWritable, MembersAreWritable}
use Rattle.json_text.proofs.Lexing.{either}
use Rattle.json_text.proofs.FitTokens.{AllFit, tokens_fit}

-- ---- tokens of parts

fit_front : (xs ys : List Token) → AllFit (xs ++ ys) → AllFit xs
fit_front [] ys f = tt
fit_front (x ∷ xs) ys f = (f.0, fit_front xs ys f.1)

fit_rest : (xs ys : List Token) → AllFit (xs ++ ys) → AllFit ys
fit_rest [] ys f = f
fit_rest (x ∷ xs) ys f = fit_rest xs ys f.1

-- ---- dates

pos_date : (w m : ℕ) (d : ℤ) (a b : Bool) → ltb w (2 ^ 63) ≡ b → cond (a && b) (Some (pos w)) None ≡ Some d → IsI64 d
pos_date w m d true true e f = let same : pos w ≡ d = cc in subst IsI64 same (ltb-true w (2 ^ 63) e)
pos_date w m d true false e f = absurd (cc f)
pos_date w m d false b e f = absurd (cc f)

neg_small : (w b : ℕ) → leb w b ≡ true → w ≤ b
neg_small w b e = grind (arith, nat_tests)

neg_i64 : (w : ℕ) → w ≤ 2 ^ 63 → IsI64 (neg_ℤ (pos w))
neg_i64 zero h = omega arith
neg_i64 (suc w) h = omega (arith, h)

neg_date : (w : ℕ) (d : ℤ) (a b : Bool) → leb w (2 ^ 63) ≡ b → cond (a && b) (Some (neg_ℤ (pos w))) None ≡ Some d → IsI64 d
neg_date w d true true e f = let same : neg_ℤ (pos w) ≡ d = cc in subst IsI64 same (neg_i64 w (neg_small w (2 ^ 63) e))
neg_date w d true false e f = absurd (cc f)
neg_date w d false b e f = absurd (cc f)

whole_is_i64 : (z d : ℤ) → whole_i64 z ≡ Some d → IsI64 d
whole_is_i64 (pos n) d e = pos_date (n / 10 ^ 18) 0 d (eqb (n % 10 ^ 18) 0) (ltb (n / 10 ^ 18) (2 ^ 63)) refl e
whole_is_i64 (negsuc n) d e = neg_date (suc n / 10 ^ 18) d (eqb (suc n % 10 ^ 18) 0) (leb (suc n / 10 ^ 18) (2 ^ 63)) refl e

date_by : (b : Bool) (o : Option ℤ) (d : ℤ) → ((d : ℤ) → o ≡ Some d → IsI64 d) → cond b o None ≡ Some d → IsI64 d
date_by true o d h e = h d e
date_by false o d h e = absurd (cc e)

date_is_i64 : (ms : List (List ℕ × Tree)) (d : ℤ) → date_of ms ≡ Some d → IsI64 d
date_is_i64 [] d e = absurd (cc e)
date_is_i64 ((n, tree.number z) ∷ []) d e = date_by (bytes_eq n _) (whole_i64 z) d (whole_is_i64 z) e
date_is_i64 ((n, tree.null) ∷ []) d e = absurd (cc e)
date_is_i64 ((n, tree.boolean b) ∷ []) d e = absurd (cc e)
date_is_i64 ((n, tree.text b) ∷ []) d e = absurd (cc e)
date_is_i64 ((n, tree.date b) ∷ []) d e = absurd (cc e)
date_is_i64 ((n, tree.list b) ∷ []) d e = absurd (cc e)
date_is_i64 ((n, tree.object b) ∷ []) d e = absurd (cc e)
date_is_i64 ((n, tree.null) ∷ p ∷ ps) d e = absurd (cc e)
date_is_i64 ((n, tree.boolean b) ∷ p ∷ ps) d e = absurd (cc e)
date_is_i64 ((n, tree.number b) ∷ p ∷ ps) d e = absurd (cc e)
date_is_i64 ((n, tree.text b) ∷ p ∷ ps) d e = absurd (cc e)
date_is_i64 ((n, tree.date b) ∷ p ∷ ps) d e = absurd (cc e)
date_is_i64 ((n, tree.list b) ∷ p ∷ ps) d e = absurd (cc e)
date_is_i64 ((n, tree.object b) ∷ p ∷ ps) d e = absurd (cc e)

-- ---- members

-- the pairs are writable as the members of an object, after members with these names
abbrev PairsAreWritable : List (List ℕ) → List (List ℕ × Tree) → Type 0
PairsAreWritable names ps = MembersAreWritable names (members_of ps)

any_push : (n m : List ℕ) (names : List (List ℕ)) → list_any (λ k. bytes_eq k n) names ≡ false → bytes_eq m n ≡ false → list_any (λ k. bytes_eq k n) (names ++ m ∷ []) ≡ false
any_push n m [] h e = ap (λ b. b || false) e
any_push n m (k ∷ names) h e =
    let rest = λ (f : list_any (λ k. bytes_eq k n) names ≡ false). any_push n m names f e in
    by rest (bytes_eq k n) h
  where
    by : (list_any (λ k. bytes_eq k n) names ≡ false → list_any (λ k. bytes_eq k n) (names ++ m ∷ []) ≡ false)
        → (b : Bool) → (b || list_any (λ k. bytes_eq k n) names) ≡ false → (b || list_any (λ k. bytes_eq k n) (names ++ m ∷ [])) ≡ false
    by rest true f = f
    by rest false f = rest f

put_writable : (names : List (List ℕ)) (ps : List (List ℕ × Tree)) (n : List ℕ) (t : Tree) → IsUtf8 n → list_any (λ m. bytes_eq m n) names ≡ false → IsWritable t
    → PairsAreWritable names ps → PairsAreWritable names (put_member n t ps)
put_writable names [] n t u fresh w ws = (u, fresh, w, tt)
put_writable names (p ∷ ps) n t u fresh w ws =
    let rest = λ (other : bytes_eq p.0 n ≡ false). put_writable (names ++ p.0 ∷ []) ps n t u (any_push n p.0 names fresh other) w ws.3 in
    either (PairsAreWritable names) (bytes_eq p.0 n) _ _ (λ _. (ws.0, ws.1, w, ws.3)) (λ other. (ws.0, ws.1, ws.2, rest other))

listed_again : (ps : List (List ℕ × Tree)) → list_of_members (members_of ps) ≡ ps
listed_again [] = refl
listed_again (p ∷ ps) = ap (λ l. p ∷ l) (listed_again ps)

object_writable : (ps : List (List ℕ × Tree)) (o : Option ℤ) → date_of ps ≡ o → PairsAreWritable [] ps → IsWritable (date_or_object o ps)
object_writable ps None e w = (w, ap date_of (listed_again ps) ∙ e)
object_writable ps (Some d) e w = date_is_i64 ps d e

mutual
  value_writable : (j : Json) → AllFit (tokens_of j) → IsWritable (tree_of j)
  value_writable null f = tt
  value_writable (boolean b) f = tt
  value_writable (number None) f = tt
  value_writable (number (Some z)) f = f.0
  value_writable (string s) f = f.0
  value_writable (array es) f = elements_writable es (fit_front (elements_tokens es) _ f.1)
  value_writable (object fs) f = object_writable (with_fields [] fs) _ refl (fields_writable fs [] tt (fit_front (fields_tokens fs) _ f.1))

  elements_writable : (es : json.Elements) → AllFit (elements_tokens es) → AreWritable (json.elements_of es)
  elements_writable json.no_elements f = tt
  elements_writable (json.element j es) f = (value_writable j (fit_front (tokens_of j) _ f), more_writable es (fit_rest (tokens_of j) _ f))

  more_writable : (es : json.Elements) → AllFit (more_elements es) → AreWritable (json.elements_of es)
  more_writable json.no_elements f = tt
  more_writable (json.element j es) f = (value_writable j (fit_front (tokens_of j) _ f.1), more_writable es (fit_rest (tokens_of j) _ f.1))

  fields_writable : (fs : Fields) (ps : List (List ℕ × Tree)) → PairsAreWritable [] ps → AllFit (fields_tokens fs) → PairsAreWritable [] (with_fields ps fs)
  fields_writable no_fields ps w f = w
  fields_writable (field n j fs) ps w f =
      let v = value_writable j (fit_front (tokens_of j) _ f.1.1) in
      more_fields_writable fs (put_member n (tree_of j) ps) (put_writable [] ps n (tree_of j) f.0 refl v w) (fit_rest (tokens_of j) _ f.1.1)

  more_fields_writable : (fs : Fields) (ps : List (List ℕ × Tree)) → PairsAreWritable [] ps → AllFit (more_fields fs) → PairsAreWritable [] (with_fields ps fs)
  more_fields_writable no_fields ps w f = w
  more_fields_writable (field n j fs) ps w f =
      let v = value_writable j (fit_front (tokens_of j) _ f.1.1.1) in
      more_fields_writable fs (put_member n (tree_of j) ps) (put_writable [] ps n (tree_of j) f.1.0 refl v w) (fit_rest (tokens_of j) _ f.1.1.1)

-- what bytes spell is writable
pub reads_writable : (bytes : List ℕ) (v : Tree) → Reads bytes v → IsWritable v
reads_writable bytes v r =
    let s = r.1 in
    let all : AllFit (text_tokens r.0) = subst AllFit s.text (tokens_fit bytes s.utf8) in
    subst IsWritable s.value (value_writable r.0 (fit_front (tokens_of r.0) (end ∷ []) all))

-- ---- levels

put_levels : (n : List ℕ) (t : Tree) (ps : List (List ℕ × Tree)) → members_levels (members_of (put_member n t ps)) ≤ max (tree_levels t) (members_levels (members_of ps))
put_levels n t [] = omega arith
put_levels n t (p ∷ ps) =
    let rest = put_levels n t ps in
    either (λ l. members_levels (members_of l) ≤ max (tree_levels t) (members_levels (members_of (p ∷ ps)))) (bytes_eq p.0 n) _ _ (λ _. omega arith) (λ _. omega (arith, rest))

object_levels : (ps : List (List ℕ × Tree)) (o : Option ℤ) (n : ℕ) → members_levels (members_of ps) ≤ n → tree_levels (date_or_object o ps) ≤ suc n
object_levels ps None n h = omega (arith, h)
object_levels ps (Some d) n h = omega arith

mutual
  value_levels : (j : Json) → tree_levels (tree_of j) ≤ levels j
  value_levels null = omega arith
  value_levels (boolean b) = omega arith
  value_levels (number None) = omega arith
  value_levels (number (Some z)) = omega arith
  value_levels (string s) = omega arith
  value_levels (array es) = omega (arith, parts_levels es)
  value_levels (object fs) = object_levels (with_fields [] fs) _ (fields_levels fs) (omega (arith, pairs_levels fs []))

  parts_levels : (es : json.Elements) → elements_levels (json.elements_of es) ≤ json.elements_levels es
  parts_levels json.no_elements = omega arith
  parts_levels (json.element j es) = omega (arith, value_levels j, parts_levels es)

  pairs_levels : (fs : Fields) (ps : List (List ℕ × Tree)) → members_levels (members_of (with_fields ps fs)) ≤ max (members_levels (members_of ps)) (fields_levels fs)
  pairs_levels no_fields ps = omega arith
  pairs_levels (field n j fs) ps = omega (arith, value_levels j, put_levels n (tree_of j) ps, pairs_levels fs (put_member n (tree_of j) ps))

-- what bytes spell has at most 32 levels
pub reads_low : (bytes : List ℕ) (v : Tree) → Reads bytes v → tree_levels v ≤ 32
reads_low bytes v r = let s = r.1 in subst (λ t. tree_levels t ≤ 32) s.value (omega (arith, value_levels r.0, s.levels))
