-- The members of an object, as a list.
use Rattle.std.proofs.Common.{◌≡◌, ℕ, List, [], ◌∷◌, length, map, Option, Some, None, refl, ap, ap₂, sym, ◌∙◌, subst, slice_get, arith, codes, Bool, true, false, not, ◌&&◌, ◌==◌, if◌then◌else◌}
use Rattle.std.specs.Option.{option_map, option_and_then, unwrap_or}
use Rattle.std.proofs.lemmas.List.{length-map}
use Rattle.std.specs.Str.{bytes_eq}
use Rattle.std.specs.List.{list_all}
use Rattle.std.proofs.lemmas.Bool.{ne_eqb}
use Rattle.json_tree.specs.Tree.{Tree, null, boolean, number, text, date, list, object, Members, no_members, member, elements_of, members_of, list_of_members}
use Rattle.json_tree.specs.RoundTrips.{list_of_elements-elements_of}
use Rattle.json_tree.specs.Members.{member_at}
use Rattle.json_tree.specs.Doc.{id_in}
use Rattle.json_tree.specs.Writable.{IsWritable, MembersAreWritable}
use Rattle.cmd_grammar.specs.First.{first_by}
use Rattle.cmd_grammar.specs.Names.{command_named}
use Rattle.update_ops.specs.Faults.{is_object}
use Rattle.cmd_grammar.specs.Rows.{Field, Row, row, are_objects}
use Rattle.cmd_grammar.specs.Fields.{option_refusal, options_refusal, members_refusal}
use Rattle.view_sort.specs.Sort.{sort_in, key_of_member}
use Rattle.cmd_grammar.specs.Parts.{member_in, elements_in, sort_of, documents_of}
use Rattle.cmd_grammar.specs.Refused.{at_level, command_at, fields_refusal}
use Rattle.cmd_grammar.specs.declared.name.Name.{Name}

pub listed : (ms : List (List ℕ × Tree)) → list_of_members (members_of ms) ≡ ms
listed [] = refl
listed (m ∷ ms) = ap (λ rest. m ∷ rest) (listed ms)

pub options_are : (o : Option (List Field)) (t : Tree) (fields : List Field) (ms : List (List ℕ × Tree)) → o ≡ Some fields → t ≡ object (members_of ms) → first_by (option_refusal fields) ms ≡ options_refusal o t
options_are o t fields ms e f = ap (first_by (option_refusal fields)) (sym (listed ms)) ∙ sym (ap₂ options_refusal e f)

pub fields_are : (name : Name) (t : Tree) (r : Row) (ms : List (List ℕ × Tree)) → r ≡ row name → t ≡ object (members_of ms) → members_refusal r ms ≡ fields_refusal (name, t)
fields_are name t r ms e f = ap₂ members_refusal e (sym (listed ms)) ∙ ap (λ u. fields_refusal (name, u)) (sym f)

pub member_is : (name : List ℕ) (t : Tree) (ms : List (List ℕ × Tree)) → t ≡ object (members_of ms) → member_at name ms ≡ member_in name t
member_is name t ms f = ap (member_at name) (sym (listed ms)) ∙ ap (member_in name) (sym f)

-- ---- how many paths a sort has

pub sort_length : (t v : Tree) (ms : List (List ℕ × Tree)) → Some v ≡ member_in (codes "sort") t → v ≡ object (members_of ms) → length ms ≡ length (sort_of t)
sort_length t v ms e f =
    sym (length-map ms key_of_member) ∙ ap (λ (l : List (List ℕ × Tree)). length (map key_of_member l)) (sym (listed ms)) ∙ ap (λ (u : Tree). length (sort_in u)) (sym f)
    ∙ ap (λ (o : Option Tree). length (sort_in (unwrap_or o (object no_members)))) e

-- ---- the documents that are to be inserted together

pub documents_are : (t v : Tree) (ts : List Tree) → Some v ≡ member_in (codes "documents") t → v ≡ list (elements_of ts) → ts ≡ documents_of t
documents_are t v ts e f =
    sym (list_of_elements-elements_of ts) ∙ ap elements_in (sym f) ∙ ap (λ (o : Option Tree). elements_in (unwrap_or o null)) e

pub documents_length : (t v : Tree) (ts : List Tree) → Some v ≡ member_in (codes "documents") t → v ≡ list (elements_of ts) → length ts ≡ length (documents_of t)
documents_length t v ts e f = ap (λ (l : List Tree). length l) (documents_are t v ts e f)

pub objects_are : (v : Tree) (ts : List Tree) → v ≡ list (elements_of ts) → (length ts ≡ 0 → ⊥) → list_all is_object ts ≡ are_objects v
objects_are v ts f some =
    sym (ap are_objects f ∙ ap (λ (l : List Tree). not (length l == 0) && list_all is_object l) (list_of_elements-elements_of ts) ∙ ap (λ (b : Bool). not b && list_all is_object ts) (ne_eqb (length ts) 0 some))

-- ---- an object of one member

not_one : (o : Option (List ℕ)) (ms : List (List ℕ × Tree)) → (length ms ≡ 1 → ⊥) → command_at o (object (members_of ms)) ≡ None
not_one o [] h = refl
not_one o (m ∷ []) h = absurd (h refl)
not_one o (m ∷ n ∷ ms) h = refl

pub several : (o : Option (List ℕ)) (t : Tree) (ms : List (List ℕ × Tree)) → t ≡ object (members_of ms) → (length ms ≡ 1 → ⊥) → None ≡ command_at o t
several o t ms f h = sym (ap (command_at o) f ∙ not_one o ms h)

pub none_at : (ms : List (List ℕ × Tree)) → length ms ≡ 1 → None ≡ slice_get ms 0 → ⊥
none_at [] h e = let z : 0 ≡ 1 = h in let no : ⊥ = omega (arith, z) in no
none_at (m ∷ ms) h e = Prim.cc e

-- the command that this name has at this level, with this value
abbrev with_value : Option (List ℕ) → List ℕ → Tree → Option (Name × Tree)
with_value o n t = option_map {U = Name × Tree} (λ (command : Name). (command, t)) (option_and_then (at_level o) (command_named n))

here : (o : Option (List ℕ)) (n : List ℕ) (t : Tree) (ms : List (List ℕ × Tree)) → length ms ≡ 1 → Some (n, t) ≡ slice_get ms 0 → with_value o n t ≡ command_at o (object (members_of ms))
here o n t [] h e = absurd (Prim.cc e)
here o n t (m ∷ []) h e =
    let same : (n, t) ≡ m = Prim.cc e in
    let P : List ℕ × Tree → Type 0 = λ p. with_value o n t ≡ with_value o p.0 p.1 in
    subst P same refl
here o n t (m ∷ k ∷ ms) h e = absurd (omega arith)

pub one_named : (o : Option (List ℕ)) (n : List ℕ) (t u : Tree) (ms : List (List ℕ × Tree)) (found : Option Name) → u ≡ object (members_of ms) → length ms ≡ 1 → Some (n, t) ≡ slice_get ms 0 → found ≡ option_and_then (at_level o) (command_named n)
    → option_map {U = Name × Tree} (λ (command : Name). (command, t)) found ≡ command_at o u
one_named o n t u ms found f h e g = ap (option_map {U = Name × Tree} (λ (command : Name). (command, t))) g ∙ here o n t ms h e ∙ sym (ap (command_at o) f)

-- ---- what is writable

if_here : (b : Bool) (x : Tree) (o : Option Tree) (v : Tree) (P : Tree → Type 0) → P x → (o ≡ Some v → P v) → (if b then Some x else o) ≡ Some v → P v
if_here true x o v P p q e = let same : x ≡ v = Prim.cc e in subst P same p
if_here false x o v P p q e = q e

within : (names : List (List ℕ)) (ms : Members) (name : List ℕ) (v : Tree) → MembersAreWritable names ms → member_at name (list_of_members ms) ≡ Some v → IsWritable v
within names no_members name v w e = absurd (Prim.cc e)
within names (member n t ms) name v w e = if_here (bytes_eq n name) t (member_at name (list_of_members ms)) v IsWritable w.2 (λ q. within _ ms name v w.3 q) e

pub member_writable : (name : List ℕ) (t v : Tree) → IsWritable t → member_in name t ≡ Some v → IsWritable v
member_writable name (object ms) v w e = within [] ms name v w.0 e
member_writable name null v w e = absurd (Prim.cc e)
member_writable name (boolean b) v w e = absurd (Prim.cc e)
member_writable name (number n) v w e = absurd (Prim.cc e)
member_writable name (text s) v w e = absurd (Prim.cc e)
member_writable name (date d) v w e = absurd (Prim.cc e)
member_writable name (list ts) v w e = absurd (Prim.cc e)

-- ---- the member `_id`

pub id_is : (t : Tree) (ms : List (List ℕ × Tree)) (o : Option Tree) → t ≡ object (members_of ms) → o ≡ member_at (codes "_id") ms → o ≡ id_in t
id_is t ms o f e = e ∙ ap (member_at (codes "_id")) (sym (listed ms)) ∙ ap id_in (sym f)
