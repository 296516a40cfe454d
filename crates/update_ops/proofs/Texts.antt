-- Values of which a list has none, by the texts of those that it has.
use Rattle.std.proofs.Common.{◌≡◌, ◌<◌, ◌↔◌, ℕ, zero, suc, Bool, true, false, cond, ◌||◌, ◌&&◌, List, [], ◌∷◌, ◌++◌, map, length, get_or, Option, Some, None, is_some, refl, sym, ◌∙◌, ap, ap₂, arith, IsTrue}
use Rattle.std.specs.List.{list_any, list_all}
use Rattle.std.specs.Str.{bytes_eq}
use Rattle.std.proofs.lemmas.Bool.{and_parts}
use Rattle.std.proofs.lemmas.Slice.Eq.{bytes_eq-Decides}
use denote.Ref.{Bor}
use Rattle.json_tree.specs.Tree.{Tree}
use Rattle.json_tree.specs.View.{tree}
use Rattle.json_tree.specs.Same.{same}
use Rattle.json_tree.specs.declared.value.Value.{Value}
use Rattle.json_text.specs.Print.{text_of}
use Rattle.update_ops.specs.View.{trees}

-- ---- a value that is found at its place

any_first : (b c : Bool) → b ≡ true → (b || c) ≡ true
any_first b c e = ap (λ x. x || c) e

any_later : (b c : Bool) → c ≡ true → (b || c) ≡ true
any_later true c e = refl
any_later false c e = e

pub any_left : (p : Tree → Bool) (xs : List Value) (ys : List Tree) (i : ℕ) (x : Value) → i < length xs → x ≡ get_or xs i x → p (tree x) ≡ true → list_any p (map tree xs ++ ys) ≡ true
any_left p [] ys i x h e q = absurd (omega arith)
any_left p (z ∷ xs) ys zero x h e q = any_first (p (tree z)) (list_any p (map tree xs ++ ys)) (ap (λ v. p (tree v)) (sym e) ∙ q)
any_left p (z ∷ xs) ys (suc i) x h e q = any_later (p (tree z)) (list_any p (map tree xs ++ ys)) (any_left p xs ys i x (omega arith) e q)

pub any_right : (p : Tree → Bool) (ys : List Tree) (zs : List (Bor Value)) (i : ℕ) (z : Bor Value) → i < length zs → z ≡ get_or zs i z → p (tree z.now) ≡ true → list_any p (ys ++ trees zs) ≡ true
any_right p (y ∷ ys) zs i z h e q = any_later (p y) (list_any p (ys ++ trees zs)) (any_right p ys zs i z h e q)
any_right p [] [] i z h e q = absurd (omega arith)
any_right p [] (x ∷ zs) zero z h e q = any_first (p (tree x.now)) (list_any p (trees zs)) (ap (λ v. p (tree v.now)) (sym e) ∙ q)
any_right p [] (x ∷ zs) (suc i) z h e q = any_later (p (tree x.now)) (list_any p (trees zs)) (any_right p [] zs i z (omega arith) e q)

-- ---- texts that are kept

no_other : (b : Bool) (o : Option ℕ) (place : ℕ) → is_some o ≡ true → is_some (cond b (Some place) o) ≡ true
no_other true o place e = refl
no_other false o place e = e

pub seen_more : (get new : List ℕ → Option ℕ) (bytes : List ℕ) (place : ℕ) → ((cs : List ℕ) → new cs ≡ cond (bytes_eq bytes cs) (Some place) (get cs)) → (ts : List Tree) (x : Tree) → bytes ≡ text_of x
    → list_all (λ t. is_some (get (text_of t))) ts ≡ true → list_all (λ t. is_some (new (text_of t))) (ts ++ x ∷ []) ≡ true
seen_more get new bytes place made [] x e h =
    ap (λ o. is_some o && true) (made (text_of x) ∙ ap (λ b. cond b (Some place) (get (text_of x))) ((bytes_eq-Decides bytes (text_of x)).1 e))
seen_more get new bytes place made (t ∷ ts) x e h =
    let s = and_parts (is_some (get (text_of t))) (list_all (λ t. is_some (get (text_of t))) ts) h in
    ap₂ (λ a b. a && b) (ap is_some (made (text_of t)) ∙ no_other (bytes_eq bytes (text_of t)) (get (text_of t)) place s.0) (seen_more get new bytes place made ts x e s.1)

-- a value whose text isn't kept is not among those whose texts are
pub unseen : (get : List ℕ → Option ℕ) (x : Tree) → ((a b : Tree) → IsTrue (same a b) ↔ (a ≡ b)) → get (text_of x) ≡ None → (ts : List Tree) → list_all (λ t. is_some (get (text_of t))) ts ≡ true
    → false ≡ list_any (λ t. same t x) ts
unseen get x decides none [] h = refl
unseen get x decides none (t ∷ ts) h =
    let s = and_parts (is_some (get (text_of t))) (list_all (λ t. is_some (get (text_of t))) ts) h in
    unseen get x decides none ts s.1 ∙ ap (λ b. b || list_any (λ t. same t x) ts) (sym (apart (same t x) refl s.0))
  where
    apart : (b : Bool) → same t x ≡ b → is_some (get (text_of t)) ≡ true → same t x ≡ false
    apart false e k = e
    apart true e k =
        let z : true ≡ false = sym k ∙ ap is_some (ap (λ u. get (text_of u)) ((decides t x).0 e) ∙ none) in absurd (Prim.cc z)
