-- What the members of a written filter say.
use Rattle.std.proofs.Common.{◌≡◌, ℕ, Bool, true, false, ◌&&◌, ◌||◌, List, [], ◌∷◌, not, Some, None, refl, sym, ◌∙◌, ap, ap₂, if◌then◌else◌}
use Rattle.std.specs.List.{list_all, list_any}
use Rattle.std.specs.List.Sorted.{IsPermutation}
use Rattle.std.specs.Str.{bytes_eq}
use Rattle.std.proofs.lemmas.Bool.{and_parts}
use Rattle.std.proofs.lemmas.List.Sorted.{list_any-IsPermutation}
use Rattle.std.proofs.lemmas.Slice.Eq.{bytes_eq-Decides}
use Rattle.json_tree.specs.Tree.{Tree, object, member, members_of}
use Rattle.json_tree.specs.Doc.{is_dollar}
use Rattle.filter_tree.specs.Filters.{FilterTree, FilterTrees, no_filters, filter, on, eq}
use Rattle.filter_tree.specs.Matches.{matches, all_match}
use Rattle.filter_tree.specs.Operators.{operators, operator_named, named_in, role, role_by}
use Rattle.filter_tree.specs.Reads.{condition, together, filter_by, operator_filters, operator_test}
use Rattle.filter_tree.specs.Finds.{finds, just, asks}
use Rattle.filter_tree.specs.declared.operator.Operator.{Operator}
use Rattle.filter_tree.specs.declared.operator.Role.TheVariants as r

pub and_true : (b : Bool) → (b && true) ≡ b
and_true true = refl
and_true false = refl

-- ---- a name without '$' is a path

apart : (s t : List ℕ) (b : Bool) → bytes_eq s t ≡ b → is_dollar s ≡ true → is_dollar t ≡ false → b ≡ false
apart s t false e p q = refl
apart s t true e p q = let clash : true ≡ false = sym p ∙ ap is_dollar ((bytes_eq-Decides s t).0 e) ∙ q in Prim.cc clash

none_named : (ps : List (List ℕ × Operator)) (name : List ℕ) → list_all (λ (p : List ℕ × Operator). is_dollar p.0) ps ≡ true → is_dollar name ≡ false → named_in ps name ≡ None
none_named [] name all h = refl
none_named (p ∷ ps) name all h =
    let t = and_parts (is_dollar p.0) (list_all (λ (q : List ℕ × Operator). is_dollar q.0) ps) all in
    ap (λ b. if b then Some p.1 else named_in ps name) (apart p.0 name (bytes_eq p.0 name) refl t.0 h) ∙ none_named ps name t.1 h

path_role : (name : List ℕ) → is_dollar name ≡ false → role name ≡ r.Path
path_role name h = ap₂ role_by (none_named operators name refl h) h

-- a member that is a path is the condition on it
pub on_path : (name : List ℕ) (x d : Tree) → is_dollar name ≡ false → finds (just name x) d ≡ matches (condition name x) d
on_path name x d h = and_true (matches (filter_by (role name) name x) d) ∙ ap (λ kind. matches (filter_by kind name x) d) (path_role name h)

-- ---- members

pub each_holds : (ms : List (List ℕ × Tree)) (d : Tree) → finds (object (members_of ms)) d ≡ list_all (λ (m : List ℕ × Tree). finds (just m.0 m.1) d) ms
each_holds [] d = refl
each_holds (m ∷ ms) d = ap₂ (λ x y. x && y) (sym (and_true (matches (filter_by (role m.0) m.0 m.1) d))) (each_holds ms d)

turned : {X : Type 0} (p : X → Bool) (xs : List X) → list_all p xs ≡ not (list_any (λ x. not (p x)) xs)
turned p [] = refl
turned p (x ∷ xs) = step (p x) (list_all p xs) (list_any (λ y. not (p y)) xs) (turned p xs)
  where
    step : (a b c : Bool) → b ≡ not c → (a && b) ≡ not (not a || c)
    step true b c h = h
    step false b c h = refl

pub any_order : (ms ns : List (List ℕ × Tree)) (d : Tree) → IsPermutation ms ns → finds (object (members_of ms)) d ≡ finds (object (members_of ns)) d
any_order ms ns d h =
    let p : List ℕ × Tree → Bool = λ m. finds (just m.0 m.1) d in
    each_holds ms d ∙ turned p ms ∙ ap not (list_any-IsPermutation (λ m. not (p m)) ms ns h) ∙ sym (turned p ns) ∙ sym (each_holds ns d)

-- ---- operators on a path

one_operator : (name : List ℕ) (o : List ℕ × Tree) (d : Tree) → is_dollar name ≡ false → is_dollar o.0 ≡ true → finds (asks name o.0 o.1) d ≡ matches (on name (operator_test (operator_named o.0) o.1)) d
one_operator name o d h k =
    on_path name (just o.0 o.1) d h ∙ ap (λ b. matches (if b then on name (operator_test (operator_named o.0) o.1) else on name (eq (just o.0 o.1))) d) k

each_operator : (name : List ℕ) (os : List (List ℕ × Tree)) (d : Tree) → is_dollar name ≡ false → list_all (λ (p : List ℕ × Tree). is_dollar p.0) os ≡ true
    → all_match (operator_filters name (members_of os)) d ≡ list_all (λ (p : List ℕ × Tree). finds (asks name p.0 p.1) d) os
each_operator name [] d h k = refl
each_operator name (o ∷ os) d h k =
    let t = and_parts (is_dollar o.0) (list_all (λ (p : List ℕ × Tree). is_dollar p.0) os) k in
    ap₂ (λ x y. x && y) (sym (one_operator name o d h t.0)) (each_operator name os d h t.1)

all_together : (f : FilterTree) (fs : FilterTrees) (d : Tree) → matches (together (filter f fs)) d ≡ all_match (filter f fs) d
all_together f no_filters d = sym (and_true (matches f d))
all_together f (filter g gs) d = refl

pub operators_hold : (name : List ℕ) (o : List ℕ × Tree) (os : List (List ℕ × Tree)) (d : Tree) → is_dollar name ≡ false → list_all (λ (p : List ℕ × Tree). is_dollar p.0) (o ∷ os) ≡ true
    → finds (just name (object (members_of (o ∷ os)))) d ≡ list_all (λ (p : List ℕ × Tree). finds (asks name p.0 p.1) d) (o ∷ os)
operators_hold name o os d h k =
    let t = and_parts (is_dollar o.0) (list_all (λ (p : List ℕ × Tree). is_dollar p.0) os) k in
    let fs : FilterTrees = operator_filters name (members_of (o ∷ os)) in
    on_path name (object (members_of (o ∷ os))) d h
    ∙ ap (λ b. matches (if b then together fs else on name (eq (object (members_of (o ∷ os))))) d) t.0
    ∙ all_together (on name (operator_test (operator_named o.0) o.1)) (operator_filters name (members_of os)) d
    ∙ each_operator name (o ∷ os) d h k
