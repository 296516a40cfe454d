-- The id of a document.
use Rattle.std.proofs.Common.{◌≡◌, ℕ, List, Option, Some, None, Result, Ok, Err, IfOk, IfErr, unwrap_or, option_and_then, option_map, IsSome, is_some, codes, subst, refl, sym, ap, ◌∙◌, ◌+◌, ◌<◌, Bool, true, false, ◌||◌, not, IsTrue, ◌↔◌, map, drop, length, get_or}
use Rattle.json_tree.specs.Tree.{Tree, elements_of, members_of}
use Rattle.json_tree.specs.View.{tree, pair_of}
use Rattle.json_tree.specs.Members.{member_at}
use Rattle.json_tree.specs.Id.{IsId, id_fault}
use Rattle.json_tree.specs.Doc.{IsDocument, id_in, id_fault_in, is_dollar, has_dollar_name, elements_dollar_name, members_dollar_name}
use Rattle.json_tree.specs.declared.fault.TreeFault.{TreeFault}
use Rattle.json_tree.specs.declared.fault.TreeFault.TheVariants.{NoMemory}
use Rattle.json_tree.specs.declared.value.Value.{Value}
use Rattle.json_tree.specs.declared.value.Value.TheVariants as v
use Rattle.json_tree.specs.RoundTrips.{list_of_members-members_of}
use Rattle.json_tree.proofs.Lists.{front_of}

pub id_there : (x : Value) (ps : List (List ℕ × Tree)) (o : Option Tree) → x ≡ v.Object ps → o ≡ member_at (codes "_id") ps → id_in (tree x) ≡ o
id_there x ps o e f = ap (λ y. id_in (tree y)) e ∙ ap (member_at (codes "_id")) (list_of_members-members_of ps) ∙ sym f

pub has_no_id : (t : Tree) → IsDocument t → id_in t ≡ None → ⊥
has_no_id t d e = rw e at d.id

pub is_id : (t i : Tree) → IsDocument t → id_in t ≡ Some i → IsId i
is_id t i d e = rw e at d.id

pub no_id_there : (o : Option Tree) → IsSome o → o ≡ None → ⊥
no_id_there None s e = absurd (Prim.cc s)
no_id_there (Some i) s e = absurd (Prim.cc e)

mapped_some : {X Y : Type 0} (f : X → Y) (o : Option X) → is_some o ≡ is_some (option_map f o)
mapped_some f None = refl
mapped_some f (Some x) = refl

pub has_id : {X : Type 0} (f : X → Tree) (x : Value) (ps : List (List ℕ × Tree)) (o : Option X) → x ≡ v.Object ps → option_map f o ≡ member_at (codes "_id") ps → is_some o ≡ is_some (id_in (tree x))
has_id f x ps o e g = mapped_some f o ∙ ap is_some g ∙ sym (ap is_some (id_there x ps (member_at (codes "_id") ps) e refl))

pub id_given : (t i : Tree) (r : Result Tree TreeFault) → id_in t ≡ Some i → IfOk r (λ d. (d ≡ i) × IsId i) → IfOk r (λ d. (id_in t ≡ Some d) × IsId d)
id_given t i (Ok d) e h = (e ∙ ap Some (sym h.0), subst IsId (sym h.0) h.1)
id_given t i (Err f) e h = tt

pub id_refused : (t i : Tree) (r : Result Tree TreeFault) → id_in t ≡ Some i → IfErr r (λ e. e ≡ unwrap_or (id_fault i) NoMemory) → IfErr r (λ e. e ≡ unwrap_or (id_fault_in t) NoMemory)
id_refused t i (Ok d) e h = tt
id_refused t i (Err f) e h = h ∙ ap (λ o. unwrap_or (option_and_then id_fault o) NoMemory) (sym e)

-- ---- names

abbrev elements_have : List Tree → Bool
elements_have ts = elements_dollar_name (elements_of ts)

abbrev members_have : List (List ℕ × Tree) → Bool
members_have ps = members_dollar_name (members_of ps)

-- a loop over elements that meets a name, or goes on
pub element_has : (xs : List Value) (i : ℕ) (x : Value) (ts : List Tree) → i < length xs → x ≡ get_or xs i x → true ≡ has_dollar_name (tree x) → elements_have (drop i (map tree xs)) ≡ elements_have (map tree xs)
    → map tree xs ≡ ts → true ≡ elements_have ts
element_has xs i x ts h p met inv e =
    ap (λ b. b || elements_have (drop (i + 1) (map tree xs))) met ∙ sym (ap elements_have (front_of tree xs i x h p)) ∙ inv ∙ ap elements_have e

pub element_lacks : (xs : List Value) (i : ℕ) (x : Value) → i < length xs → x ≡ get_or xs i x → false ≡ has_dollar_name (tree x) → elements_have (drop i (map tree xs)) ≡ elements_have (map tree xs)
    → elements_have (drop (i + 1) (map tree xs)) ≡ elements_have (map tree xs)
element_lacks xs i x h p other inv = ap (λ b. b || elements_have (drop (i + 1) (map tree xs))) other ∙ sym (ap elements_have (front_of tree xs i x h p)) ∙ inv

abbrev pair_has : List ℕ × Value → Bool
pair_has p = is_dollar p.0 || has_dollar_name (tree p.1)

pub member_has : (xs : List (List ℕ × Value)) (i : ℕ) (x : List ℕ × Value) (ps : List (List ℕ × Tree)) → i < length xs → x ≡ get_or xs i x → true ≡ pair_has x → members_have (drop i (map pair_of xs)) ≡ members_have (map pair_of xs)
    → map pair_of xs ≡ ps → true ≡ members_have ps
member_has xs i x ps h p met inv e =
    ap (λ b. b || members_have (drop (i + 1) (map pair_of xs))) met ∙ sym (ap members_have (front_of pair_of xs i x h p)) ∙ inv ∙ ap members_have e

pub member_lacks : (xs : List (List ℕ × Value)) (i : ℕ) (x : List ℕ × Value) → i < length xs → x ≡ get_or xs i x → false ≡ pair_has x → members_have (drop i (map pair_of xs)) ≡ members_have (map pair_of xs)
    → members_have (drop (i + 1) (map pair_of xs)) ≡ members_have (map pair_of xs)
member_lacks xs i x h p other inv = ap (λ b. b || members_have (drop (i + 1) (map pair_of xs))) other ∙ sym (ap members_have (front_of pair_of xs i x h p)) ∙ inv

none_is : (b : Bool) → IsTrue (not b) → b ≡ false
none_is true h = absurd (Prim.cc h)
none_is false h = refl

-- the test of a document
pub tested : (x : Value) (ps : List (List ℕ × Tree)) (i : Tree) (b : Bool) → x ≡ v.Object ps → Some i ≡ member_at (codes "_id") ps → IsId i → b ≡ members_have ps → IsTrue (not b) ↔ IsDocument (tree x)
tested x ps i b e f good g =
    let there = id_there x ps (Some i) e f in
    let names : has_dollar_name (tree x) ≡ b = ap (λ y. has_dollar_name (tree y)) e ∙ sym g in
    (λ h. record { id = rw there good; names = names ∙ none_is b h }, λ d. ap not (sym names ∙ d.names))

pub wrong_id : (x : Value) (ps : List (List ℕ × Tree)) (i : Tree) → x ≡ v.Object ps → Some i ≡ member_at (codes "_id") ps → (IsId i → ⊥) → IsDocument (tree x) → ⊥
wrong_id x ps i e f bad d = bad (is_id (tree x) i d (id_there x ps (Some i) e f))

pub no_id : (x : Value) (ps : List (List ℕ × Tree)) → x ≡ v.Object ps → None ≡ member_at (codes "_id") ps → IsDocument (tree x) → ⊥
no_id x ps e f d = has_no_id (tree x) d (id_there x ps None e f)

pub faultless : (o : Option TreeFault) (t : Tree) → o ≡ id_fault t → is_some o ≡ false → IsId t
faultless None t e h = sym e
faultless (Some f) t e h = absurd (Prim.cc h)

pub faulty : (o : Option TreeFault) (t : Tree) → o ≡ id_fault t → is_some o ≡ true → IsId t → ⊥
faulty None t e h i = absurd (Prim.cc h)
faulty (Some f) t e h i = Prim.cc (e ∙ i)
