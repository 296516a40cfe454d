-- What a request without a refusal asks for.
use Rattle.std.specs.Prelude.{◌≡◌, ℕ, Bool, true, false, List, Option, Some, None, is_some, IfSome, IsTrue}
use Rattle.std.specs.Option.{option_map}
use Rattle.json_tree.specs.Tree.{Tree}
use Rattle.doc_paths.specs.Name.{is_collection_name}
use Rattle.view_sort.specs.declared.page.PageState.{PageState}
use Rattle.reply_env.specs.declared.request.Place.{Place}
use Rattle.cmd_grammar.specs.Commands.{CommandTree, insert_one, insert_many, find_one, find, count_documents, update_one, update_many, delete_one, delete_many, find_one_and_update, find_one_and_replace, find_one_and_delete, create_collection, find_collections, delete_collection}
use Rattle.cmd_grammar.specs.Parts.{filter_of, updates_of, sort_of, shows_of, document_of, documents_of, replacement_of, limit_of, skip_of, ordered_of, upsert_of, after_of, name_of, IsPage}
use Rattle.cmd_grammar.specs.Refused.{command_at, page_at}
use Rattle.cmd_grammar.specs.declared.name.Name.{Name}
use Rattle.cmd_grammar.specs.declared.name.Name.TheVariants.{InsertOne, InsertMany, FindOne, Find, CountDocuments, UpdateOne, UpdateMany, DeleteOne, DeleteMany, FindOneAndUpdate, FindOneAndReplace, FindOneAndDelete, CreateCollection, FindCollections, DeleteCollection}

-- the command of this name with this value, and with this page state
abbrev pub command_of : Option PageState → Name × Tree → CommandTree
command_of page (InsertOne, t) = insert_one (document_of t)
command_of page (InsertMany, t) = insert_many (documents_of t) (ordered_of t)
command_of page (FindOne, t) = find_one (filter_of t) (sort_of t) (shows_of t)
command_of page (Find, t) = find (filter_of t) (sort_of t) (shows_of t) (record { limit = limit_of t; skip = skip_of t; page = page })
command_of page (CountDocuments, t) = count_documents (filter_of t)
command_of page (UpdateOne, t) = update_one (filter_of t) (updates_of t) (sort_of t) (upsert_of t)
command_of page (UpdateMany, t) = update_many (filter_of t) (updates_of t) (upsert_of t) page
command_of page (DeleteOne, t) = delete_one (filter_of t) (sort_of t)
command_of page (DeleteMany, t) = delete_many (filter_of t)
command_of page (FindOneAndUpdate, t) = find_one_and_update (filter_of t) (updates_of t) (sort_of t) (shows_of t) (upsert_of t) (after_of t)
command_of page (FindOneAndReplace, t) = find_one_and_replace (filter_of t) (replacement_of t) (sort_of t) (shows_of t) (upsert_of t) (after_of t)
command_of page (FindOneAndDelete, t) = find_one_and_delete (filter_of t) (sort_of t) (shows_of t)
command_of page (CreateCollection, t) = create_collection (name_of t)
command_of page (FindCollections, t) = find_collections
command_of page (DeleteCollection, t) = delete_collection (name_of t)

-- the value asks for this command at the place
pub record Asks (place : Place) (value : Tree) (command : CommandTree) : Type 0 where
  pub page : Option PageState
  pub is_page : IsPage (page_at place value) page
  pub is_command : option_map (command_of page) (command_at place.collection value) ≡ Some command

-- ---- where a command stands, and what it is about

-- the command is on the documents of a collection, and not on collections
abbrev pub is_of_documents : CommandTree → Bool
is_of_documents (create_collection name) = false
is_of_documents find_collections = false
is_of_documents (delete_collection name) = false
is_of_documents command = true

-- the collection that the command is about: the path's, or the one that it names
abbrev pub target : Place → CommandTree → Option (List ℕ)
target place (create_collection name) = Some name
target place find_collections = None
target place (delete_collection name) = Some name
target place command = place.collection

-- The place is of the keyspace, and names a collection exactly for a command on documents. The collection that the command
-- is about has a name that collections may have.
pub record IsPlaced (own : List ℕ) (place : Place) (command : CommandTree) : Type 0 where
  pub keyspace : place.keyspace ≡ own
  pub level : is_some place.collection ≡ is_of_documents command
  pub is_name : IfSome (target place command) (λ name. IsTrue (is_collection_name name))
