-- A request whose tests have been made, and the command that its parts make. Only the crate's private clauses cite it.
use Rattle.std.specs.Prelude.{◌≡◌, ℕ, List, [], ◌∷◌, Option, Some, None, ⊤, IsTrue, is_some, codes, unwrap_or, option_and_then}
use Rattle.std.specs.Option.{option_or}
use Rattle.json_tree.specs.Tree.{Tree, null}
use Rattle.filter_tree.specs.Filters.{FilterTree}
use Rattle.filter_tree.specs.View.{filter_tree}
use Rattle.update_ops.specs.Clauses.{Clause}
use Rattle.view_sort.specs.Sort.{SortKeys}
use Rattle.reply_env.specs.declared.reply.ErrorItem.{ErrorItem}
use Rattle.reply_env.specs.declared.request.Place.{Place}
use Rattle.cmd_grammar.specs.First.{first_of}
use Rattle.cmd_grammar.specs.Commands.{CommandTree, Shows, Paging, insert_one, insert_many, find_one, find, count_documents, update_one, update_many, delete_one, delete_many, find_one_and_update, find_one_and_replace, find_one_and_delete, create_collection, find_collections, delete_collection}
use Rattle.cmd_grammar.specs.Names.{command_text}
use Rattle.cmd_grammar.specs.Parts.{member_in, text_in, elements_in, filter_of, updates_of, sort_of, shows_of, limit_of, skip_of, ordered_of, upsert_of, after_of, page_text, IsPage}
use Rattle.cmd_grammar.specs.Refused.{command_at, collection_named, keyspace_refusal, collection_refusal, projection_refusal, sort_refusal, contents_refusal, command_refusal}
use Rattle.cmd_grammar.specs.declared.parts.Choices.{Choices}
use Rattle.cmd_grammar.specs.declared.parts.Listing.{Listing}
use Rattle.cmd_grammar.specs.declared.parts.Parts.{Parts}
use Rattle.cmd_grammar.specs.declared.name.Name.{Name}
use Rattle.cmd_grammar.specs.declared.name.Name.TheVariants.{InsertOne, InsertMany, FindOne, Find, CountDocuments, UpdateOne, UpdateMany, DeleteOne, DeleteMany, FindOneAndUpdate, FindOneAndReplace, FindOneAndDelete, CreateCollection, FindCollections, DeleteCollection}

-- the tests of the path and of the collection that the command is about
abbrev pub place_refusal : List ℕ → Place → Name × Tree → Option ErrorItem
place_refusal keyspace place command = first_of (keyspace_refusal keyspace place.keyspace ∷ collection_refusal (collection_named place.collection command) ∷ [])

-- the tests behind that of the command's name
abbrev pub named_refusal : List ℕ → Place → Name × Tree → Option ErrorItem
named_refusal keyspace place command = option_or (place_refusal keyspace place command) (command_refusal command)

-- the tests behind that of the update
abbrev pub listing_refusal : Tree → Option ErrorItem
listing_refusal t = first_of (projection_refusal t ∷ sort_refusal t ∷ contents_refusal t ∷ [])

-- ---- parts

-- a command's value tells this of what is shown
pub record IsListing (t : Tree) (l : Listing) : Type 0 where
  pub projection : l.projection ≡ shows_of t
  pub sort : l.sort ≡ sort_of t
  pub limit : l.limit ≡ limit_of t
  pub skip : l.skip ≡ skip_of t
  pub page : IsPage (page_text t) l.page

-- the options that are truth values, or choose one of two
abbrev pub choices_of : Tree → Choices
choices_of t = record { ordered = ordered_of t; upsert = upsert_of t; after = after_of t }

-- these are the parts of a command's value
pub record AreParts (t : Tree) (p : Parts) : Type 0 where
  pub filter : filter_tree p.filter ≡ filter_of t
  pub updates : p.updates ≡ updates_of t
  pub listing : IsListing t p.listing
  pub choices : p.choices ≡ choices_of t

-- the value at the place is of this command, with these parts
pub record IsJudged (place : Place) (value : Tree) (name : Name) (parts : Parts) : Type 0 where
  pub inner : Tree
  pub is_at : command_at place.collection value ≡ Some (name, inner)
  pub are_parts : AreParts inner parts

-- ---- contents

-- the member that the command takes out of its value as it is
abbrev pub content_name : Name → Option (List ℕ)
content_name InsertOne = Some (codes "document")
content_name InsertMany = Some (codes "documents")
content_name FindOneAndReplace = Some (codes "replacement")
content_name CreateCollection = Some (codes "name")
content_name DeleteCollection = Some (codes "name")
content_name name = None

abbrev pub content_at : Option (List ℕ) → Tree → Option Tree
content_at member t = option_and_then (λ name. member_in name t) member

-- its value; null where there is none
abbrev pub content_of : Name → Tree → Tree
content_of name t = unwrap_or (content_at (content_name name) t) null

-- the same of the whole body
abbrev pub content_in : Name → Tree → Tree
content_in name body = unwrap_or (option_and_then (content_at (content_name name)) (member_in (command_text name) body)) null

-- it is a text where it has to name a collection
abbrev pub HasName : Name → Tree → Type 0
HasName CreateCollection content = IsTrue (is_some (text_in content))
HasName DeleteCollection content = IsTrue (is_some (text_in content))
HasName name content = ⊤

-- ---- the command

-- the parts, as a tree that holds no pointer
pub record Spelled : Type 0 where
  pub filter : FilterTree
  pub updates : List Clause
  pub sort : SortKeys
  pub shows : Shows
  pub paging : Paging
  pub choices : Choices

abbrev pub spelled : Parts → Spelled
spelled p = record {
  filter = filter_tree p.filter;
  updates = p.updates;
  sort = p.listing.sort;
  shows = p.listing.projection;
  paging = record { limit = p.listing.limit; skip = p.listing.skip; page = p.listing.page };
  choices = p.choices;
}

-- the command that the parts make with the content
abbrev pub made_of : Name → Spelled → Tree → CommandTree
made_of InsertOne s t = insert_one t
made_of InsertMany s t = insert_many (elements_in t) s.choices.ordered
made_of FindOne s t = find_one s.filter s.sort s.shows
made_of Find s t = find s.filter s.sort s.shows s.paging
made_of CountDocuments s t = count_documents s.filter
made_of UpdateOne s t = update_one s.filter s.updates s.sort s.choices.upsert
made_of UpdateMany s t = update_many s.filter s.updates s.choices.upsert s.paging.page
made_of DeleteOne s t = delete_one s.filter s.sort
made_of DeleteMany s t = delete_many s.filter
made_of FindOneAndUpdate s t = find_one_and_update s.filter s.updates s.sort s.shows s.choices.upsert s.choices.after
made_of FindOneAndReplace s t = find_one_and_replace s.filter t s.sort s.shows s.choices.upsert s.choices.after
made_of FindOneAndDelete s t = find_one_and_delete s.filter s.sort s.shows
made_of CreateCollection s t = create_collection (unwrap_or (text_in t) [])
made_of FindCollections s t = find_collections
made_of DeleteCollection s t = delete_collection (unwrap_or (text_in t) [])
