-- The first bad name, at a step through elements or members.
use Rattle.std.proofs.Common.{◌≡◌, ◌+◌, ℕ, Bool, true, false, not, ◌&&◌, if◌then◌else◌, List, [], ◌∷◌, ◌++◌, drop, Option, Some, None, refl, sym, ◌∙◌, ap, slice_get}
use Rattle.std.specs.List.{list_all, find}
use Rattle.std.specs.Option.{option_or}
use Rattle.std.proofs.lemmas.List.Folds.{find-append}
use Rattle.std.specs.Prelude.{option_map, IfNone, IsTrue}
use Rattle.json_tree.specs.Tree.{Tree, elements_of, members_of}
use Rattle.doc_limits.specs.Names.{is_plain, names_in, names_in_elements, names_in_members, first_bad_name}
use Rattle.json_tree.specs.Sizes.{drop-at}

abbrev pub first_bad : List (List ℕ) → Option (List ℕ)
first_bad names = find (λ n. not (is_plain n)) names

pub element_here : (ts : List Tree) (i : ℕ) (t : Tree) → Some t ≡ slice_get ts i
    → first_bad (names_in_elements (elements_of (drop i ts))) ≡ option_or (first_bad_name t) (first_bad (names_in_elements (elements_of (drop (i + 1) ts))))
element_here ts i t at = ap (λ l. first_bad (names_in_elements (elements_of l))) (drop-at ts i t (sym at)) ∙ find-append _ (names_in t) _

pub element_passed : (ts : List Tree) (i : ℕ) (t : Tree) → Some t ≡ slice_get ts i → None ≡ first_bad_name t
    → first_bad (names_in_elements (elements_of (drop (i + 1) ts))) ≡ first_bad (names_in_elements (elements_of (drop i ts)))
element_passed ts i t at e = sym (element_here ts i t at ∙ ap (λ o. option_or o (first_bad (names_in_elements (elements_of (drop (i + 1) ts))))) (sym e))

pub element_found : (ts : List Tree) (i : ℕ) (t : Tree) (n : List ℕ) → Some t ≡ slice_get ts i → Some n ≡ first_bad_name t → Some n ≡ first_bad (names_in_elements (elements_of (drop i ts)))
element_found ts i t n at e = sym (element_here ts i t at ∙ ap (λ o. option_or o (first_bad (names_in_elements (elements_of (drop (i + 1) ts))))) (sym e))

pub member_here : (ps : List (List ℕ × Tree)) (i : ℕ) (n : List ℕ) (t : Tree) → Some (n, t) ≡ slice_get ps i → is_plain n ≡ true
    → first_bad (names_in_members (members_of (drop i ps))) ≡ option_or (first_bad_name t) (first_bad (names_in_members (members_of (drop (i + 1) ps))))
member_here ps i n t at plain =
    ap (λ l. first_bad (names_in_members (members_of l))) (drop-at ps i (n, t) (sym at))
    ∙ ap (λ b. if not b then Some n else first_bad (names_in t ++ names_in_members (members_of (drop (i + 1) ps)))) plain
    ∙ find-append _ (names_in t) _

pub member_bad : (ps : List (List ℕ × Tree)) (i : ℕ) (n : List ℕ) (t : Tree) → Some (n, t) ≡ slice_get ps i → is_plain n ≡ false
    → Some n ≡ first_bad (names_in_members (members_of (drop i ps)))
member_bad ps i n t at bad =
    sym (ap (λ l. first_bad (names_in_members (members_of l))) (drop-at ps i (n, t) (sym at))
    ∙ ap (λ b. if not b then Some n else first_bad (names_in t ++ names_in_members (members_of (drop (i + 1) ps)))) bad)

pub member_passed : (ps : List (List ℕ × Tree)) (i : ℕ) (n : List ℕ) (t : Tree) → Some (n, t) ≡ slice_get ps i → is_plain n ≡ true → None ≡ first_bad_name t
    → first_bad (names_in_members (members_of (drop (i + 1) ps))) ≡ first_bad (names_in_members (members_of (drop i ps)))
member_passed ps i n t at plain e = sym (member_here ps i n t at plain ∙ ap (λ o. option_or o (first_bad (names_in_members (members_of (drop (i + 1) ps))))) (sym e))

pub member_found : (ps : List (List ℕ × Tree)) (i : ℕ) (n : List ℕ) (t : Tree) (m : List ℕ) → Some (n, t) ≡ slice_get ps i → is_plain n ≡ true → Some m ≡ first_bad_name t
    → Some m ≡ first_bad (names_in_members (members_of (drop i ps)))
member_found ps i n t m at plain e = sym (member_here ps i n t at plain ∙ ap (λ o. option_or o (first_bad (names_in_members (members_of (drop (i + 1) ps))))) (sym e))

plain_of : (b : Bool) (n : List ℕ) (o : Option (List ℕ)) → (if not b then Some n else o) ≡ None → (b ≡ true) × (o ≡ None)
plain_of true n o e = (refl, e)
plain_of false n o e = Prim.cc e

-- where none is bad, all are plain
pub all_plain : (names : List (List ℕ)) → first_bad names ≡ None → list_all is_plain names ≡ true
all_plain [] e = refl
all_plain (n ∷ names) e = let p = plain_of (is_plain n) n (first_bad names) e in ap (λ b. b && list_all is_plain names) p.0 ∙ all_plain names p.1

pub plain_where_none : {X : Type 0} (r : Option X) (f : X → List ℕ) (names : List (List ℕ)) → option_map f r ≡ first_bad names → IfNone r (IsTrue (list_all is_plain names))
plain_where_none None f names e = all_plain names (sym e)
plain_where_none (Some x) f names e = tt
