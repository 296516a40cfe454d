-- What passed tests of a command's members tell: a member that has to be there is there, and is of its kind.
use Rattle.std.proofs.Common.{◌≡◌, ℕ, Bool, true, false, ◌&&◌, ◌||◌, List, [], ◌∷◌, Option, Some, None, refl, ap, sym, ◌∙◌, subst, codes, if◌then◌else◌}
use Rattle.std.specs.Option.{option_or, is_none, is_some}
use Rattle.std.specs.Str.{bytes_eq}
use Rattle.std.proofs.lemmas.Slice.Eq.{bytes_eq-Decides}
use Rattle.json_tree.specs.Tree.{Tree, null, boolean, number, text, date, list, object, Members, list_of_members}
use Rattle.json_tree.specs.Members.{member_at}
use Rattle.update_ops.specs.Faults.{is_object}
use Rattle.reply_env.specs.Messages.{bad_field}
use Rattle.reply_env.specs.declared.reply.ErrorItem.{ErrorItem}
use Rattle.cmd_grammar.specs.First.{first_by}
use Rattle.cmd_grammar.specs.Parts.{member_in, text_in}
use Rattle.cmd_grammar.specs.Rows.{Row, row, fits, are_objects}
use Rattle.cmd_grammar.specs.Fields.{options_refusal, member_refusal, missing_refusal}
use Rattle.cmd_grammar.specs.Refused.{fields_refusal}
use Rattle.cmd_grammar.specs.declared.name.Name.{Name}
use Rattle.cmd_grammar.specs.declared.name.Name.TheVariants.{InsertOne, InsertMany, FindOneAndReplace, CreateCollection, DeleteCollection}
use Rattle.cmd_grammar.proofs.Order.{neither_fires}

-- the value has this member, of this kind
pub record Holds (name : List ℕ) (kind : Tree → Bool) (t : Tree) : Type 0 where
  pub value : Tree
  pub is_value : member_in name t ≡ Some value
  pub is_kind : kind value ≡ true

passed : (b : Bool) (e : ErrorItem) → (if b then None else Some e) ≡ None → b ≡ true
passed true e h = refl
passed false e h = absurd (Prim.cc h)

either : (b : Bool) (x v : Tree) (o : Option Tree) (P : Type 0) → (b ≡ true → x ≡ v → P) → (o ≡ Some v → P) → (if b then Some x else o) ≡ Some v → P
either true x v o P p q e = p refl (Prim.cc e)
either false x v o P p q e = q e

fits_here : (r : Row) (name : List ℕ) (v : Tree) → bytes_eq name (codes "options") ≡ false → member_refusal r (name, v) ≡ None → fits r.members name v ≡ true
fits_here r name v other h =
    passed (fits r.members name v) (bad_field name)
    (sym (ap (λ (b : Bool). if b then options_refusal r.options v else (if fits r.members name v then None else Some (bad_field name))) other) ∙ h)

each_fits : (r : Row) (ms : List (List ℕ × Tree)) (name : List ℕ) (v : Tree) → bytes_eq name (codes "options") ≡ false → first_by (member_refusal r) ms ≡ None → member_at name ms ≡ Some v → fits r.members name v ≡ true
each_fits r [] name v other h e = absurd (Prim.cc e)
each_fits r (p ∷ ms) name v other h e =
    let both = neither_fires (member_refusal r p) (first_by (member_refusal r) ms) h in
    either (bytes_eq p.0 name) p.1 v (member_at name ms) (fits r.members name v ≡ true)
    (λ named is. fits_here r name v other (subst (λ (q : List ℕ × Tree). member_refusal r q ≡ None) (λ i. ((bytes_eq-Decides p.0 name).0 named i, is i)) both.0))
    (λ q. each_fits r ms name v other both.1 q) e

-- ---- the value is an object, whose members fit

record Fits (name : Name) (t : Tree) : Type 0 where
  members : Members
  is : t ≡ object members
  fit : first_by (member_refusal (row name)) (list_of_members members) ≡ None
  there : first_by (missing_refusal (list_of_members members)) (row name).members ≡ None

fitting : (name : Name) (t : Tree) → fields_refusal (name, t) ≡ None → Fits name t
fitting name (object ms) h =
    let both = neither_fires (first_by (member_refusal (row name)) (list_of_members ms)) (first_by (missing_refusal (list_of_members ms)) (row name).members) h in
    record { members = ms; is = refl; fit = both.0; there = both.1 }
fitting name null h = absurd (Prim.cc h)
fitting name (boolean b) h = absurd (Prim.cc h)
fitting name (number k) h = absurd (Prim.cc h)
fitting name (text s) h = absurd (Prim.cc h)
fitting name (date d) h = absurd (Prim.cc h)
fitting name (list ts) h = absurd (Prim.cc h)

held : (o : Option Tree) (e : ErrorItem) (rest : Option ErrorItem) → option_or (if true && is_none o then Some e else None) rest ≡ None → (v : Tree) × (o ≡ Some v)
held None e rest h = absurd (Prim.cc h)
held (Some v) e rest h = (v, refl)

alone : (b : Bool) → (b || false) ≡ true → b ≡ true
alone true e = refl
alone false e = absurd (Prim.cc e)

of_kind : (name : Name) (field : List ℕ) (kind : Tree → Bool) (t : Tree) (f : Fits name t) → bytes_eq field (codes "options") ≡ false → ((v : Tree) → fits (row name).members field v ≡ (kind v || false)) → (v : Tree) × (member_at field (list_of_members f.members) ≡ Some v) → Holds field kind t
of_kind name field kind t f other computes m = record {
  value = m.0;
  is_value = ap (member_in field) f.is ∙ m.1;
  is_kind = alone (kind m.0) (sym (computes m.0) ∙ each_fits (row name) (list_of_members f.members) field m.0 other f.fit m.1);
}

-- ---- the members that have to be there

pub has_document : (t : Tree) → fields_refusal (InsertOne, t) ≡ None → Holds (codes "document") is_object t
has_document t h = let f = fitting InsertOne t h in of_kind InsertOne (codes "document") is_object t f refl (λ v. refl) (held (member_at (codes "document") (list_of_members f.members)) (bad_field (codes "document")) None f.there)

pub has_documents : (t : Tree) → fields_refusal (InsertMany, t) ≡ None → Holds (codes "documents") are_objects t
has_documents t h = let f = fitting InsertMany t h in of_kind InsertMany (codes "documents") are_objects t f refl (λ v. refl) (held (member_at (codes "documents") (list_of_members f.members)) (bad_field (codes "documents")) None f.there)

pub has_replacement : (t : Tree) → fields_refusal (FindOneAndReplace, t) ≡ None → Holds (codes "replacement") is_object t
has_replacement t h =
    let f = fitting FindOneAndReplace t h in of_kind FindOneAndReplace (codes "replacement") is_object t f refl (λ v. refl) (held (member_at (codes "replacement") (list_of_members f.members)) (bad_field (codes "replacement")) None f.there)

abbrev is_name : Tree → Bool
is_name t = is_some (text_in t)

pub has_new_name : (t : Tree) → fields_refusal (CreateCollection, t) ≡ None → Holds (codes "name") (λ v. is_some (text_in v)) t
has_new_name t h = let f = fitting CreateCollection t h in of_kind CreateCollection (codes "name") is_name t f refl (λ v. refl) (held (member_at (codes "name") (list_of_members f.members)) (bad_field (codes "name")) None f.there)

pub has_old_name : (t : Tree) → fields_refusal (DeleteCollection, t) ≡ None → Holds (codes "name") (λ v. is_some (text_in v)) t
has_old_name t h = let f = fitting DeleteCollection t h in of_kind DeleteCollection (codes "name") is_name t f refl (λ v. refl) (held (member_at (codes "name") (list_of_members f.members)) (bad_field (codes "name")) None f.there)
