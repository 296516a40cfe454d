-- What is shown at a path.
use Rattle.std.proofs.Common.{◌≡◌, ℕ, Bool, true, false, cond, not, is_some, List, [], ◌∷◌, Option, Some, None, option_and_then, sym, refl, ◌∙◌, ap, true≢false}
use Rattle.std.specs.Str.{bytes_eq}
use Rattle.std.proofs.lemmas.Bool.{and_parts}
use Rattle.std.proofs.lemmas.Slice.Eq.{bytes_eq-Decides}
use Rattle.json_tree.specs.Tree.{Tree, null, boolean, number, text, date, list, object, Members, no_members, member, list_of_members}
use Rattle.json_tree.specs.Members.{member_at, all_distinct}
use Rattle.view_sort.specs.View.{under, said, inside, shown, with_member, whole_if, by_show, includes, whole_rests, view}
use Rattle.view_sort.specs.ByPath.{object_at, rules_at, Lead, Distinct, shown_as}
use Rattle.view_sort.specs.declared.show.Show.{Show}

abbrev members_shown : Bool → List (List (List ℕ) × Show) → Members → List (List ℕ × Tree)
members_shown keeps rs ms = list_of_members (shown keeps rs ms)

absent_step : (n name : List ℕ) (t : Tree) (ms more : Members) (b : Bool) → bytes_eq name n ≡ b → is_some (cond b (Some t) (member_at n (list_of_members ms))) ≡ false
    → (is_some (member_at n (list_of_members ms)) ≡ false → member_at n (list_of_members more) ≡ None) → (o : Option Tree) → member_at n (list_of_members (with_member name o more)) ≡ None
absent_step n name t ms more true same h rest o = absurd (true≢false h)
absent_step n name t ms more false other h rest None = rest h
absent_step n name t ms more false other h rest (Some x) = ap (λ b. cond b (Some x) (member_at n (list_of_members more))) other ∙ rest h

-- a name that isn't there isn't shown
absent : (keeps : Bool) (rs : List (List (List ℕ) × Show)) (n : List ℕ) (ms : Members) → is_some (member_at n (list_of_members ms)) ≡ false → member_at n (members_shown keeps rs ms) ≡ None
absent keeps rs n no_members e = refl
absent keeps rs n (member name t ms) e = absent_step n name t ms (shown keeps rs ms) (bytes_eq name n) refl e (absent keeps rs n ms) (shown_as keeps (under name rs) t)

not-true : (b : Bool) → not b ≡ true → b ≡ false
not-true true e = absurd (true≢false (sym e))
not-true false e = refl

shown_step : (keeps : Bool) (rs : List (List (List ℕ) × Show)) (n name : List ℕ) (t : Tree) (ms : Members) → is_some (member_at name (list_of_members ms)) ≡ false
    → member_at n (members_shown keeps rs ms) ≡ option_and_then (shown_as keeps (under n rs)) (member_at n (list_of_members ms))
    → (b : Bool) → bytes_eq name n ≡ b → (o : Option Tree) → shown_as keeps (under name rs) t ≡ o
    → member_at n (list_of_members (with_member name o (shown keeps rs ms))) ≡ option_and_then (shown_as keeps (under n rs)) (cond b (Some t) (member_at n (list_of_members ms)))
shown_step keeps rs n name t ms new rest true same None e =
    let is : name ≡ n = (bytes_eq-Decides name n).0 same in
    absent keeps rs n ms (ap (λ m. is_some (member_at m (list_of_members ms))) (sym is) ∙ new) ∙ sym (ap (λ m. shown_as keeps (under m rs) t) (sym is) ∙ e)
shown_step keeps rs n name t ms new rest true same (Some x) e =
    let is : name ≡ n = (bytes_eq-Decides name n).0 same in
    ap (λ b. cond b (Some x) (member_at n (members_shown keeps rs ms))) same ∙ sym (ap (λ m. shown_as keeps (under m rs) t) (sym is) ∙ e)
shown_step keeps rs n name t ms new rest false other None e = rest
shown_step keeps rs n name t ms new rest false other (Some x) e = ap (λ b. cond b (Some x) (member_at n (members_shown keeps rs ms))) other ∙ rest

-- what is shown of the member of a name
member_shown : (keeps : Bool) (rs : List (List (List ℕ) × Show)) (n : List ℕ) (ms : Members) → all_distinct (list_of_members ms) ≡ true
    → member_at n (members_shown keeps rs ms) ≡ option_and_then (shown_as keeps (under n rs)) (member_at n (list_of_members ms))
member_shown keeps rs n no_members d = refl
member_shown keeps rs n (member name t ms) d =
    let both = and_parts (not (is_some (member_at name (list_of_members ms)))) (all_distinct (list_of_members ms)) d in
    shown_step keeps rs n name t ms (not-true _ both.0) (member_shown keeps rs n ms both.1) (bytes_eq name n) refl (shown_as keeps (under name rs) t) refl

then_some : (o : Option Tree) → option_and_then (λ v. object_at v []) o ≡ o
then_some None = refl
then_some (Some t) = refl

abbrev Shown : Bool → List (List (List ℕ) × Show) → List (List ℕ) → Tree → Type 0
Shown keeps rs q t = option_and_then (λ v. object_at v q) (shown_as keeps rs t) ≡ option_and_then (shown_as keeps (rules_at rs q)) (object_at t q)

by_inside : (keeps : Bool) (r : List (List ℕ) × Show) (rs : List (List (List ℕ) × Show)) (t : Tree) → said (r ∷ rs) ≡ None → shown_as keeps (r ∷ rs) t ≡ inside keeps (r ∷ rs) t
by_inside keeps r rs t e = ap (λ s. by_show s t (inside keeps (r ∷ rs) t)) e

through : (keeps : Bool) (rs : List (List (List ℕ) × Show)) (more : List (List ℕ)) (m : Option Tree) → ((c : Tree) → m ≡ Some c → Shown keeps rs more c)
    → option_and_then (λ v. object_at v more) (option_and_then (shown_as keeps rs) m) ≡ option_and_then (shown_as keeps (rules_at rs more)) (option_and_then (λ c. object_at c more) m)
through keeps rs more None h = refl
through keeps rs more (Some c) h = h c refl

blocked : (keeps : Bool) (name : List ℕ) (more : List (List ℕ)) (t : Tree) → object_at t (name ∷ more) ≡ None → option_and_then (λ v. object_at v (name ∷ more)) (whole_if keeps t) ≡ None
blocked true name more t e = e
blocked false name more t e = refl

pub shown_at : (keeps : Bool) (q : List (List ℕ)) (rs : List (List (List ℕ) × Show)) (t : Tree) → Distinct t q → Lead rs q → Shown keeps rs q t
shown_at keeps [] rs t d l = then_some (shown_as keeps rs t)
shown_at keeps (name ∷ more) [] t d l = absurd l
shown_at keeps (name ∷ more) (r ∷ rs) (object ms) d l =
    ap (option_and_then (λ v. object_at v (name ∷ more))) (by_inside keeps r rs (object ms) l.0) ∙ ap (option_and_then (λ v. object_at v more)) (member_shown keeps (r ∷ rs) name ms d.0)
    ∙ through keeps (under name (r ∷ rs)) more (member_at name (list_of_members ms)) (λ c e. shown_at keeps more (under name (r ∷ rs)) c (d.1 c e) l.1)
shown_at keeps (name ∷ more) (r ∷ rs) null d l = ap (option_and_then (λ v. object_at v (name ∷ more))) (by_inside keeps r rs null l.0) ∙ blocked keeps name more null refl
shown_at keeps (name ∷ more) (r ∷ rs) (boolean b) d l = ap (option_and_then (λ v. object_at v (name ∷ more))) (by_inside keeps r rs (boolean b) l.0) ∙ blocked keeps name more (boolean b) refl
shown_at keeps (name ∷ more) (r ∷ rs) (number n) d l = ap (option_and_then (λ v. object_at v (name ∷ more))) (by_inside keeps r rs (number n) l.0) ∙ blocked keeps name more (number n) refl
shown_at keeps (name ∷ more) (r ∷ rs) (text s) d l = ap (option_and_then (λ v. object_at v (name ∷ more))) (by_inside keeps r rs (text s) l.0) ∙ blocked keeps name more (text s) refl
shown_at keeps (name ∷ more) (r ∷ rs) (date n) d l = ap (option_and_then (λ v. object_at v (name ∷ more))) (by_inside keeps r rs (date n) l.0) ∙ blocked keeps name more (date n) refl
shown_at keeps (name ∷ more) (r ∷ rs) (list ts) d l = ap (option_and_then (λ v. object_at v (name ∷ more))) (by_inside keeps r rs (list ts) l.0) ∙ blocked keeps name more (list ts) refl

-- of the whole document, whatever its rules are
pub view_at : (rules : List (List ℕ × Show)) (ms : Members) (name : List ℕ) (more : List (List ℕ)) → Distinct (object ms) (name ∷ more) → Lead (under name (whole_rests rules)) more
    → object_at (view rules (object ms)) (name ∷ more) ≡ option_and_then (shown_as (not (includes rules)) (rules_at (whole_rests rules) (name ∷ more))) (object_at (object ms) (name ∷ more))
view_at rules ms name more d l =
    let keeps = not (includes rules) in
    let rs = whole_rests rules in
    ap (option_and_then (λ v. object_at v more)) (member_shown keeps rs name ms d.0)
    ∙ through keeps (under name rs) more (member_at name (list_of_members ms)) (λ c e. shown_at keeps more (under name rs) c (d.1 c e) l)
