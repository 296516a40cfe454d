-- A request without a refusal is of the keyspace, of its command's level, and about a collection of a right name.
use Rattle.std.proofs.Common.{◌≡◌, ℕ, Bool, true, false, List, [], Option, Some, None, IsTrue, refl, sym, ◌∙◌, subst, if◌then◌else◌}
use Rattle.std.specs.Option.{unwrap_or, is_some, IfSome}
use Rattle.std.specs.Str.{bytes_eq}
use Rattle.std.proofs.lemmas.Slice.Eq.{bytes_eq-Decides}
use Rattle.json_tree.specs.Tree.{Tree, null}
use Rattle.doc_paths.specs.Name.{is_collection_name}
use Rattle.view_sort.specs.declared.page.PageState.{PageState}
use Rattle.reply_env.specs.Messages.{bad_collection_name, no_keyspace}
use Rattle.reply_env.specs.declared.request.Place.{Place}
use Rattle.cmd_grammar.specs.Names.{is_on_documents}
use Rattle.cmd_grammar.specs.Parts.{text_in, name_text}
use Rattle.cmd_grammar.specs.Refused.{collection_refusal}
use Rattle.cmd_grammar.specs.Asked.{command_of, is_of_documents, target, IsPlaced}
use Rattle.cmd_grammar.specs.declared.name.Name.{Name}
use Rattle.cmd_grammar.specs.declared.name.Name.TheVariants.{InsertOne, InsertMany, FindOne, Find, CountDocuments, UpdateOne, UpdateMany, DeleteOne, DeleteMany, FindOneAndUpdate, FindOneAndReplace, FindOneAndDelete, CreateCollection, FindCollections, DeleteCollection}
use Rattle.cmd_grammar.proofs.Held.{has_new_name, has_old_name}
use Rattle.cmd_grammar.proofs.Passing.{Passed}

same_keyspace : (b : Bool) (own name : List ℕ) → (b ≡ true → name ≡ own) → (if b then None else Some (no_keyspace name)) ≡ None → name ≡ own
same_keyspace true own name same e = same refl
same_keyspace false own name same e = absurd (Prim.cc e)

abbrev HasRightName : Option (List ℕ) → Type 0
HasRightName o = IfSome o (λ name. IsTrue (is_collection_name name))

right_name : (o : Option (List ℕ)) → collection_refusal o ≡ None → HasRightName o
right_name None e = tt
right_name (Some name) e = go (is_collection_name name) name e
  where
    go : (b : Bool) (n : List ℕ) → (if b then None else Some (bad_collection_name n)) ≡ None → IsTrue b
    go true n e = refl
    go false n e = absurd (Prim.cc e)

-- a name that is there
named_right : (o : Option (List ℕ)) → IsTrue (is_some o) → HasRightName o → HasRightName (Some (unwrap_or o []))
named_right None i h = absurd (Prim.cc i)
named_right (Some name) i h = h

-- a member that is a text
pub is_there : (o : Option Tree) (v : Tree) → o ≡ Some v → IsTrue (is_some (text_in v)) → IsTrue (is_some (text_in (unwrap_or o null)))
is_there o v e h = subst (λ (o : Option Tree). IsTrue (is_some (text_in (unwrap_or o null)))) (sym e) h

level_of : (name : Name) (page : Option PageState) (t : Tree) → is_on_documents name ≡ is_of_documents (command_of page (name, t))
level_of InsertOne page t = refl
level_of InsertMany page t = refl
level_of FindOne page t = refl
level_of Find page t = refl
level_of CountDocuments page t = refl
level_of UpdateOne page t = refl
level_of UpdateMany page t = refl
level_of DeleteOne page t = refl
level_of DeleteMany page t = refl
level_of FindOneAndUpdate page t = refl
level_of FindOneAndReplace page t = refl
level_of FindOneAndDelete page t = refl
level_of CreateCollection page t = refl
level_of FindCollections page t = refl
level_of DeleteCollection page t = refl

about : (keyspace : List ℕ) (place : Place) (name : Name) (t : Tree) (page : Option PageState) → Passed keyspace place name t → HasRightName (target place (command_of page (name, t)))
about keyspace place CreateCollection t page p = let n = has_new_name t p.fields in named_right (name_text t) (is_there _ n.value n.is_value n.is_kind) (right_name (name_text t) p.right_name)
about keyspace place FindCollections t page p = tt
about keyspace place DeleteCollection t page p = let n = has_old_name t p.fields in named_right (name_text t) (is_there _ n.value n.is_value n.is_kind) (right_name (name_text t) p.right_name)
about keyspace place InsertOne t page p = right_name place.collection p.right_name
about keyspace place InsertMany t page p = right_name place.collection p.right_name
about keyspace place FindOne t page p = right_name place.collection p.right_name
about keyspace place Find t page p = right_name place.collection p.right_name
about keyspace place CountDocuments t page p = right_name place.collection p.right_name
about keyspace place UpdateOne t page p = right_name place.collection p.right_name
about keyspace place UpdateMany t page p = right_name place.collection p.right_name
about keyspace place DeleteOne t page p = right_name place.collection p.right_name
about keyspace place DeleteMany t page p = right_name place.collection p.right_name
about keyspace place FindOneAndUpdate t page p = right_name place.collection p.right_name
about keyspace place FindOneAndReplace t page p = right_name place.collection p.right_name
about keyspace place FindOneAndDelete t page p = right_name place.collection p.right_name

pub placed : (keyspace : List ℕ) (place : Place) (name : Name) (t : Tree) (page : Option PageState) → Passed keyspace place name t → is_some place.collection ≡ is_on_documents name → IsPlaced keyspace place (command_of page (name, t))
placed keyspace place name t page p level = record {
  keyspace = same_keyspace (bytes_eq place.keyspace keyspace) keyspace place.keyspace (λ q. (bytes_eq-Decides place.keyspace keyspace).0 q) p.own_keyspace;
  level = level ∙ level_of name page t;
  is_name = about keyspace place name t page p;
}
