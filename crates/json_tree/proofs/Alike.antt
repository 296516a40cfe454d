-- The test whether two values are the same decides their equality.
use Rattle.std.proofs.Common.{◌≡◌, Bool, true, ◌&&◌, refl, sym, ◌∙◌, ap, ap₂, bytes_eq}
use Rattle.std.specs.Bool.{Decides}
use Rattle.std.specs.Cmp.{booleans_Decides, signed_Decides}
use Rattle.std.proofs.lemmas.Bool.{and_parts}
use Rattle.std.proofs.lemmas.Slice.Eq.{bytes_eq-Decides}
use Rattle.json_tree.specs.Tree.{Tree, null, boolean, number, text, date, list, object, Elements, no_elements, element, Members, no_members, member}
use Rattle.json_tree.specs.Same.{same, same_elements, same_members}

both : (a b : Bool) → a ≡ true → b ≡ true → (a && b) ≡ true
both a b p q = ap₂ (λ x y. x && y) p q

mutual
  same_refl : (t : Tree) → same t t ≡ true
  same_refl null = refl
  same_refl (boolean b) = (booleans_Decides b b).1 refl
  same_refl (number n) = (signed_Decides n n).1 refl
  same_refl (text s) = (bytes_eq-Decides s s).1 refl
  same_refl (date n) = (signed_Decides n n).1 refl
  same_refl (list xs) = elements_refl xs
  same_refl (object xs) = members_refl xs

  elements_refl : (xs : Elements) → same_elements xs xs ≡ true
  elements_refl no_elements = refl
  elements_refl (element t xs) = both _ _ (same_refl t) (elements_refl xs)

  members_refl : (xs : Members) → same_members xs xs ≡ true
  members_refl no_members = refl
  members_refl (member n t xs) = both _ _ ((bytes_eq-Decides n n).1 refl) (both _ _ (same_refl t) (members_refl xs))

mutual
  same_alike : (a b : Tree) → same a b ≡ true → a ≡ b
  same_alike null null e = refl
  same_alike (boolean a) (boolean b) e = ap boolean ((booleans_Decides a b).0 e)
  same_alike (number a) (number b) e = ap number ((signed_Decides a b).0 e)
  same_alike (text a) (text b) e = ap text ((bytes_eq-Decides a b).0 e)
  same_alike (date a) (date b) e = ap date ((signed_Decides a b).0 e)
  same_alike (list xs) (list ys) e = ap list (elements_alike xs ys e)
  same_alike (object xs) (object ys) e = ap object (members_alike xs ys e)
  same_alike a b e = cc

  elements_alike : (xs ys : Elements) → same_elements xs ys ≡ true → xs ≡ ys
  elements_alike no_elements no_elements e = refl
  elements_alike (element a xs) (element b ys) e =
      let p = and_parts (same a b) (same_elements xs ys) e in ap₂ element (same_alike a b p.0) (elements_alike xs ys p.1)
  elements_alike xs ys e = cc

  members_alike : (xs ys : Members) → same_members xs ys ≡ true → xs ≡ ys
  members_alike no_members no_members e = refl
  members_alike (member m a xs) (member n b ys) e =
      let p = and_parts (bytes_eq m n) (same a b && same_members xs ys) e in
      let q = and_parts (same a b) (same_members xs ys) p.1 in
      let f : m ≡ n = (bytes_eq-Decides m n).0 p.0 in
      let g : a ≡ b = same_alike a b q.0 in
      let h : xs ≡ ys = members_alike xs ys q.1 in
      λ i. member (f i) (g i) (h i)
  members_alike xs ys e = cc

pub same-Decides : (a b : Tree) → Decides (same a b) (a ≡ b)
same-Decides a b = (same_alike a b, λ e. ap (λ x. same a x) (sym e) ∙ same_refl a)
