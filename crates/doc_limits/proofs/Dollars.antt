-- A plain name doesn't begin with '$'.
use Rattle.std.proofs.Common.{◌≡◌, ℕ, Bool, true, false, ◌&&◌, ◌||◌, List, [], ◌∷◌, ◌++◌, Option, Some, None, refl, sym, ◌∙◌, ap}
use Rattle.std.specs.Prelude.{IfNone, IsTrue}
use Rattle.std.specs.List.{list_all}
use Rattle.std.proofs.lemmas.Bool.{ne_eqb}
use Rattle.std.proofs.lemmas.List.Folds.{list_all-append}
use Rattle.json_tree.specs.Tree.{Tree, null, boolean, number, text, date, list, object, Elements, no_elements, element, Members, no_members, member}
use Rattle.json_tree.specs.Doc.{is_dollar, has_dollar_name, elements_dollar_name, members_dollar_name}
use Rattle.doc_limits.specs.Names.{is_plain_byte, is_plain, names_in, names_in_elements, names_in_members}

both_true : (a b : Bool) → (a && b) ≡ true → (a ≡ true) × (b ≡ true)
both_true true b e = (refl, e)
both_true false b e = Prim.cc e

plain_is_no_dollar : (n : List ℕ) → is_plain n ≡ true → is_dollar n ≡ false
plain_is_no_dollar [] e = refl
plain_is_no_dollar (x ∷ n) e = ne_eqb x 36 (λ q. Prim.cc (sym (both_true (is_plain_byte x) (list_all is_plain_byte n) e).0 ∙ ap is_plain_byte q))

mutual
  no_dollar : (t : Tree) → list_all is_plain (names_in t) ≡ true → has_dollar_name t ≡ false
  no_dollar null e = refl
  no_dollar (boolean b) e = refl
  no_dollar (number n) e = refl
  no_dollar (text s) e = refl
  no_dollar (date d) e = refl
  no_dollar (list ts) e = no_dollar_elements ts e
  no_dollar (object ms) e = no_dollar_members ms e

  no_dollar_elements : (ts : Elements) → list_all is_plain (names_in_elements ts) ≡ true → elements_dollar_name ts ≡ false
  no_dollar_elements no_elements e = refl
  no_dollar_elements (element t ts) e =
      let p = both_true _ _ (sym (list_all-append is_plain (names_in t) (names_in_elements ts)) ∙ e) in
      λ i. no_dollar t p.0 i || no_dollar_elements ts p.1 i

  no_dollar_members : (ms : Members) → list_all is_plain (names_in_members ms) ≡ true → members_dollar_name ms ≡ false
  no_dollar_members no_members e = refl
  no_dollar_members (member n t ms) e =
      let q = both_true (is_plain n) (list_all is_plain (names_in t ++ names_in_members ms)) e in
      let p = both_true _ _ (sym (list_all-append is_plain (names_in t) (names_in_members ms)) ∙ q.1) in
      λ i. plain_is_no_dollar n q.0 i || no_dollar t p.0 i || no_dollar_members ms p.1 i

pub no_dollar_where_none : {X : Type 0} (r : Option X) (t : Tree) → IfNone r (IsTrue (list_all is_plain (names_in t))) → IfNone r (has_dollar_name t ≡ false)
no_dollar_where_none None t e = no_dollar t e
no_dollar_where_none (Some x) t e = tt
