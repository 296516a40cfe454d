-- Documents that passed their tests may be inserted, or replace others.
use Rattle.std.proofs.Common.{◌≡◌, ℕ, true, false, not, ◌==◌, List, [], ◌∷◌, length, ◌||◌, Option, Some, None, MatchOption, refl, sym, subst}
use Rattle.std.specs.List.{list_all, AllByRecursion}
use Rattle.std.specs.Option.{option_map, option_and_then}
use Rattle.std.proofs.lemmas.Bool.{and_parts}
use Rattle.json_tree.specs.Tree.{Tree, null, boolean, number, text, date, list, object, Members, list_of_elements}
use Rattle.json_tree.specs.Id.{IsId, id_fault}
use Rattle.json_tree.specs.Doc.{id_in, IsDocument, has_dollar_name}
use Rattle.doc_limits.specs.Names.{first_bad_name, names_in}
use Rattle.doc_limits.specs.Limits.{broken}
use Rattle.doc_limits.proofs.Named.{all_plain}
use Rattle.doc_limits.proofs.Dollars.{no_dollar_where_none}
use Rattle.update_ops.specs.Faults.{is_object}
use Rattle.update_ops.specs.Upsert.{with_id, IsReplacement}
use Rattle.cmd_grammar.specs.First.{first_of, first_by}
use Rattle.cmd_grammar.specs.Documents.{id_kind_refusal, empty_id_refusal, name_refusal, limit_refusal, replacing_refusal, document_refusal}
use Rattle.cmd_grammar.specs.Commands.{stand_in, under, under_own, IsInsertable}
use Rattle.cmd_grammar.specs.Parts.{elements_in}
use Rattle.cmd_grammar.specs.Rows.{are_objects}
use Rattle.cmd_grammar.proofs.Order.{neither_fires}

none_mapped : {X Y : Type 0} (f : X → Y) (o : Option X) → option_map f o ≡ None → o ≡ None
none_mapped f None e = refl
none_mapped f (Some x) e = absurd (Prim.cc e)

-- ---- names and ids

abbrev nothing : Option ℕ
nothing = None

no_dollar : (t : Tree) → first_bad_name t ≡ None → has_dollar_name t ≡ false
no_dollar t e = no_dollar_where_none nothing t (all_plain (names_in t) e)

no_fault : (o : Option Tree) → id_kind_refusal o ≡ None → empty_id_refusal o ≡ None → option_and_then id_fault o ≡ None
no_fault None k e = refl
no_fault (Some null) k e = refl
no_fault (Some (boolean b)) k e = refl
no_fault (Some (number n)) k e = refl
no_fault (Some (text [])) k e = absurd (Prim.cc e)
no_fault (Some (text (x ∷ s))) k e = refl
no_fault (Some (date d)) k e = refl
no_fault (Some (list ts)) k e = absurd (Prim.cc k)
no_fault (Some (object ms)) k e = absurd (Prim.cc k)

pub replaces : (t : Tree) → is_object t ≡ true → replacing_refusal t ≡ None → IsReplacement t
replaces t o h =
    let a = neither_fires (id_kind_refusal (id_in t)) (first_of (empty_id_refusal (id_in t) ∷ name_refusal (first_bad_name t) ∷ [])) h in
    let b = neither_fires (empty_id_refusal (id_in t)) (first_of (name_refusal (first_bad_name t) ∷ [])) a.1 in
    let c = neither_fires (name_refusal (first_bad_name t)) None b.1 in
    record { object = o; names = no_dollar t (none_mapped _ (first_bad_name t) c.0); id = no_fault (id_in t) a.0 b.0 }

-- ---- documents

pub fronted : (id : Tree) (ms : Members) → IsId id → has_dollar_name id ≡ false → has_dollar_name (object ms) ≡ false → IsDocument (with_id id (object ms))
fronted id ms h plain names = record { id = h; names = λ i. plain i || names i }

-- an object without a wrong id, under an id in front if it has none
under_either : (ms : Members) (o : Option Tree) → id_in (object ms) ≡ o → option_and_then id_fault o ≡ None → has_dollar_name (object ms) ≡ false → IsDocument (under_own stand_in (object ms) o)
under_either ms None e h names = fronted stand_in ms refl refl names
under_either ms (Some id) e h names = record { id = subst (λ (o : Option Tree). MatchOption o ⊥ IsId) (sym e) h; names = names }

document : (t : Tree) → IsReplacement t → IsDocument (under stand_in t)
document (object ms) r = under_either ms (id_in (object ms)) refl r.id r.names
document null r = absurd (Prim.cc r.object)
document (boolean b) r = absurd (Prim.cc r.object)
document (number n) r = absurd (Prim.cc r.object)
document (text s) r = absurd (Prim.cc r.object)
document (date d) r = absurd (Prim.cc r.object)
document (list ts) r = absurd (Prim.cc r.object)

pub insertable : (t : Tree) → is_object t ≡ true → document_refusal t ≡ None → IsInsertable t
insertable t o h =
    let a = neither_fires (replacing_refusal t) (first_of (limit_refusal (broken (under stand_in t)) ∷ [])) h in
    let b = neither_fires (limit_refusal (broken (under stand_in t))) None a.1 in
    record { document = document t (replaces t o a.0); limits = none_mapped _ (broken (under stand_in t)) b.0 }

each_insertable : (ts : List Tree) → list_all is_object ts ≡ true → first_by document_refusal ts ≡ None → AllByRecursion IsInsertable ts
each_insertable [] o h = tt
each_insertable (t ∷ ts) o h =
    let a = and_parts (is_object t) (list_all is_object ts) o in
    let b = neither_fires (document_refusal t) (first_by document_refusal ts) h in
    (insertable t a.0 b.0, each_insertable ts a.1 b.1)

pub all_insertable : (v : Tree) → are_objects v ≡ true → first_by document_refusal (elements_in v) ≡ None → AllByRecursion IsInsertable (elements_in v)
all_insertable (list ts) o h = each_insertable (list_of_elements ts) (and_parts (not (length (list_of_elements ts) == 0)) (list_all is_object (list_of_elements ts)) o).1 h
all_insertable null o h = absurd (Prim.cc o)
all_insertable (boolean b) o h = absurd (Prim.cc o)
all_insertable (number n) o h = absurd (Prim.cc o)
all_insertable (text s) o h = absurd (Prim.cc o)
all_insertable (date d) o h = absurd (Prim.cc o)
all_insertable (object ms) o h = absurd (Prim.cc o)
