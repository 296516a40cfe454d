-- A request without a refusal asks for what the store may be asked for.
use Rattle.std.proofs.Common.{◌≡◌, ◌<◌, ◌≤◌, ◌^◌, ℕ, true, not, ◌&&◌, ◌==◌, List, [], ◌∷◌, length, arith, Option, Some, None, ap, sym, ◌∙◌, subst, codes}
use Rattle.std.specs.List.{AllByRecursion, list_all}
use Rattle.std.specs.Option.{option_and_then, unwrap_or}
use Rattle.json_tree.specs.Tree.{Tree, null, boolean, number, text, date, list, object, list_of_elements}
use Rattle.update_ops.specs.Faults.{is_object}
use Rattle.update_ops.specs.Upsert.{IsReplacement}
use Rattle.view_sort.specs.declared.page.PageState.{PageState}
use Rattle.reply_env.specs.declared.reply.ErrorItem.{ErrorItem}
use Rattle.reply_env.specs.declared.request.Place.{Place}
use Rattle.cmd_grammar.specs.First.{first_by}
use Rattle.cmd_grammar.specs.Commands.{IsInsertable, IsAskable, IsAskableFilter, IsAskablePage, IsAskablePaging, Paging}
use Rattle.cmd_grammar.specs.Parts.{member_in, elements_in, filter_of, limit_of, skip_of, document_of, documents_of, replacement_of, page_text, IsPage}
use Rattle.cmd_grammar.specs.Rows.{are_objects}
use Rattle.cmd_grammar.specs.Documents.{document_refusal, replacing_refusal}
use Rattle.cmd_grammar.specs.Refused.{inserted_refusal, many_inserted_refusal, replacement_refusal}
use Rattle.cmd_grammar.specs.Asked.{command_of}
use Rattle.cmd_grammar.specs.declared.name.Name.{Name}
use Rattle.cmd_grammar.specs.declared.name.Name.TheVariants.{InsertOne, InsertMany, FindOne, Find, CountDocuments, UpdateOne, UpdateMany, DeleteOne, DeleteMany, FindOneAndUpdate, FindOneAndReplace, FindOneAndDelete, CreateCollection, FindCollections, DeleteCollection}
use Rattle.cmd_grammar.proofs.Bounds.{number_small}
use Rattle.cmd_grammar.proofs.Held.{Holds, has_document, has_documents, has_replacement}
use Rattle.cmd_grammar.proofs.Passing.{Passed, limited, untouched}
use Rattle.cmd_grammar.proofs.Storing.{replaces, insertable, all_insertable}

-- ---- pages

given_small : (o : Option (List ℕ)) (page : Option PageState) → IsPage o page → IsAskablePage page
given_small None None h = tt
given_small None (Some state) h = absurd h
given_small (Some s) None h = absurd h
given_small (Some s) (Some state) h = h.given

abbrev paging : ℕ → ℕ → Option PageState → Paging
paging limit skip page = record { limit = limit; skip = skip; page = page }

askable_paging : (t : Tree) (page : Option PageState) → IsPage (page_text t) page → skip_of t ≤ 480 → IsAskablePaging (paging (limit_of t) (skip_of t) page)
askable_paging t page p skip = record { limit = number_small (codes "limit") t; skip = skip; given = given_small (page_text t) page p }

-- ---- documents

-- the value of a member that is there
abbrev or_null : Option Tree → Tree
or_null o = unwrap_or o null

insertable_in : (t : Tree) → Holds (codes "document") is_object t → inserted_refusal t ≡ None → IsInsertable (document_of t)
insertable_in t d h =
    subst (λ (o : Option Tree). IsInsertable (or_null o)) (sym d.is_value) (insertable d.value d.is_kind (sym (ap (option_and_then document_refusal) d.is_value) ∙ h))

insertables_in : (t : Tree) → Holds (codes "documents") are_objects t → many_inserted_refusal t ≡ None → AllByRecursion IsInsertable (documents_of t)
insertables_in t d h =
    subst (λ (o : Option Tree). AllByRecursion IsInsertable (elements_in (or_null o))) (sym d.is_value)
    (all_insertable d.value d.is_kind (sym (ap (λ (o : Option Tree). first_by document_refusal (elements_in (or_null o))) d.is_value) ∙ h))

-- a list of objects has one at least
some_there : (ts : List Tree) → (not (length ts == 0) && list_all is_object ts) ≡ true → 1 ≤ length ts
some_there [] e = absurd (Prim.cc e)
some_there (t ∷ ts) e = omega arith

some_objects : (t : Tree) → are_objects t ≡ true → 1 ≤ length (elements_in t)
some_objects (list ts) e = some_there (list_of_elements ts) e
some_objects null e = absurd (Prim.cc e)
some_objects (boolean b) e = absurd (Prim.cc e)
some_objects (number n) e = absurd (Prim.cc e)
some_objects (text s) e = absurd (Prim.cc e)
some_objects (date n) e = absurd (Prim.cc e)
some_objects (object ms) e = absurd (Prim.cc e)

some_in : (t : Tree) → Holds (codes "documents") are_objects t → 1 ≤ length (documents_of t)
some_in t d = subst (λ (o : Option Tree). 1 ≤ length (elements_in (or_null o))) (sym d.is_value) (some_objects d.value d.is_kind)

replacement_in : (t : Tree) → Holds (codes "replacement") is_object t → replacement_refusal t ≡ None → IsReplacement (replacement_of t)
replacement_in t d h =
    subst (λ (o : Option Tree). IsReplacement (or_null o)) (sym d.is_value) (replaces d.value d.is_kind (sym (ap (option_and_then replacing_refusal) d.is_value) ∙ h))

-- ---- the command

pub askable : (keyspace : List ℕ) (place : Place) (name : Name) (t : Tree) (page : Option PageState) → Passed keyspace place name t → IsAskableFilter (filter_of t) → IsPage (page_text t) page → IsAskable (command_of page (name, t))
askable keyspace place InsertOne t page passed f p = let d = has_document t passed.fields in insertable_in t d (untouched t passed.contents).inserted
askable keyspace place InsertMany t page passed f p = let d = has_documents t passed.fields in (insertables_in t d (untouched t passed.contents).many, some_in t d, (limited t passed.limits).documents)
askable keyspace place FindOne t page passed f p = f
askable keyspace place Find t page passed f p = (f, askable_paging t page p (limited t passed.limits).skip)
askable keyspace place CountDocuments t page passed f p = f
askable keyspace place UpdateOne t page passed f p = f
askable keyspace place UpdateMany t page passed f p = (f, given_small (page_text t) page p)
askable keyspace place DeleteOne t page passed f p = f
askable keyspace place DeleteMany t page passed f p = f
askable keyspace place FindOneAndUpdate t page passed f p = f
askable keyspace place FindOneAndReplace t page passed f p = let d = has_replacement t passed.fields in (f, replacement_in t d (untouched t passed.contents).replacement)
askable keyspace place FindOneAndDelete t page passed f p = f
askable keyspace place CreateCollection t page passed f p = tt
askable keyspace place FindCollections t page passed f p = tt
askable keyspace place DeleteCollection t page passed f p = tt
