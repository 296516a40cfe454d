-- Commands: a tree that holds no pointer.
use Rattle.std.specs.Prelude.{◌≡◌, ◌<◌, ◌≤◌, ◌^◌, ℕ, Bool, true, List, length, codes, Option, None, Some, IfSome, ⊤}
use Rattle.std.specs.List.{AllByRecursion}
use Rattle.json_tree.specs.Tree.{Tree, text}
use Rattle.json_tree.specs.Doc.{IsDocument, id_in}
use Rattle.json_tree.specs.View.{tree}
use Rattle.doc_limits.specs.Limits.{broken}
use Rattle.filter_tree.specs.Filters.{FilterTree}
use Rattle.filter_tree.specs.View.{filter_tree}
use Rattle.filter_tree.specs.Ready.{is_ready, FilterIsWritable}
use Rattle.update_ops.specs.Clauses.{Clause}
use Rattle.update_ops.specs.Upsert.{with_id, IsReplacement}
use Rattle.view_sort.specs.Sort.{SortKeys}
use Rattle.view_sort.specs.declared.show.Show.{Show}
use Rattle.view_sort.specs.declared.page.PageState.{PageState}
use Rattle.cmd_grammar.specs.declared.command.Command.{Command}
use Rattle.cmd_grammar.specs.declared.command.Command.TheVariants.{InsertOne, InsertMany, FindOne, Find, CountDocuments, UpdateOne, UpdateMany, DeleteOne, DeleteMany, FindOneAndUpdate, FindOneAndReplace, FindOneAndDelete, CreateCollection, FindCollections, DeleteCollection}

-- paths of a projection, each with what is shown of it; none where the whole document is shown
abbrev pub Shows : Type 0
Shows = List (List ℕ × Show)

-- Which part of what matches is shown. The limit is one of all pages together, 0 for none.
pub record Paging : Type 0 where
  pub limit : ℕ
  pub skip : ℕ
  pub page : Option PageState

-- Whether an update or a replacement inserts a document where none matches; whether insertMany ends at the first document
-- whose id is taken; whether a document that is changed is shown as it is left, and not as it was found
pub data CommandTree : Type 0 where
  insert_one : (document : Tree) → CommandTree
  insert_many : (documents : List Tree) (ordered : Bool) → CommandTree
  find_one : FilterTree → SortKeys → Shows → CommandTree
  find : FilterTree → SortKeys → Shows → Paging → CommandTree
  count_documents : FilterTree → CommandTree
  update_one : FilterTree → List Clause → SortKeys → (upsert : Bool) → CommandTree
  update_many : FilterTree → List Clause → (upsert : Bool) → Option PageState → CommandTree
  delete_one : FilterTree → SortKeys → CommandTree
  delete_many : FilterTree → CommandTree
  find_one_and_update : FilterTree → List Clause → SortKeys → Shows → (upsert after : Bool) → CommandTree
  find_one_and_replace : FilterTree → (replacement : Tree) → SortKeys → Shows → (upsert after : Bool) → CommandTree
  find_one_and_delete : FilterTree → SortKeys → Shows → CommandTree
  create_collection : (name : List ℕ) → CommandTree
  find_collections : CommandTree
  delete_collection : (name : List ℕ) → CommandTree

-- the tree that a command of the program is
abbrev pub command_tree : Command → CommandTree
command_tree (InsertOne document) = insert_one (tree document)
command_tree (InsertMany documents ordered) = insert_many documents ordered
command_tree (FindOne filter sort projection) = find_one (filter_tree filter) sort projection
command_tree (Find filter sort projection limit skip page) = find (filter_tree filter) sort projection (record { limit = limit; skip = skip; page = page })
command_tree (CountDocuments filter) = count_documents (filter_tree filter)
command_tree (UpdateOne filter updates sort upsert) = update_one (filter_tree filter) updates sort upsert
command_tree (UpdateMany filter updates upsert page) = update_many (filter_tree filter) updates upsert page
command_tree (DeleteOne filter sort) = delete_one (filter_tree filter) sort
command_tree (DeleteMany filter) = delete_many (filter_tree filter)
command_tree (FindOneAndUpdate filter updates sort projection upsert after) = find_one_and_update (filter_tree filter) updates sort projection upsert after
command_tree (FindOneAndReplace filter replacement sort projection upsert after) = find_one_and_replace (filter_tree filter) (tree replacement) sort projection upsert after
command_tree (FindOneAndDelete filter sort projection) = find_one_and_delete (filter_tree filter) sort projection
command_tree (CreateCollection name) = create_collection name
command_tree FindCollections = find_collections
command_tree (DeleteCollection name) = delete_collection name

-- the filter can be planned, and its operands are written as they are read
pub record IsAskableFilter (f : FilterTree) : Type 0 where
  pub ready : is_ready f ≡ true
  pub writable : FilterIsWritable f

-- the document may be stored
pub record IsStorable (t : Tree) : Type 0 where
  pub document : IsDocument t
  pub limits : broken t ≡ None

-- A text that stands for the id which a document without `_id` gets in front: each such id has as many bytes
abbrev pub stand_in : Tree
stand_in = text (codes "00000000-0000-0000-0000-000000000000")

-- the document as it is judged, and is stored, under this id if it has none
abbrev pub under_own : Tree → Tree → Option Tree → Tree
under_own id t None = with_id id t
under_own id t (Some own) = t

abbrev pub under : Tree → Tree → Tree
under id t = under_own id t (id_in t)

-- the document may be inserted: it may be stored, under the id that stands in for its own if it has none
abbrev pub IsInsertable : Tree → Type 0
IsInsertable t = IsStorable (under stand_in t)

-- so many documents can have been given before
abbrev pub IsAskablePage : Option PageState → Type 0
IsAskablePage page = IfSome page (λ page. page.given < 2 ^ 63)

-- the numbers of a page are within their bounds
pub record IsAskablePaging (p : Paging) : Type 0 where
  pub limit : p.limit < 2 ^ 31
  pub skip : p.skip ≤ 480
  pub given : IsAskablePage p.page

-- what the store may be asked for
abbrev pub IsAskable : CommandTree → Type 0
IsAskable (insert_one t) = IsInsertable t
IsAskable (insert_many ts ordered) = AllByRecursion IsInsertable ts × (1 ≤ length ts) × (length ts ≤ 100)
IsAskable (find_one f sort shows) = IsAskableFilter f
IsAskable (find f sort shows paging) = IsAskableFilter f × IsAskablePaging paging
IsAskable (count_documents f) = IsAskableFilter f
IsAskable (update_one f updates sort upsert) = IsAskableFilter f
IsAskable (update_many f updates upsert page) = IsAskableFilter f × IsAskablePage page
IsAskable (delete_one f sort) = IsAskableFilter f
IsAskable (delete_many f) = IsAskableFilter f
IsAskable (find_one_and_update f updates sort shows upsert after) = IsAskableFilter f
IsAskable (find_one_and_replace f replacement sort shows upsert after) = IsAskableFilter f × IsReplacement replacement
IsAskable (find_one_and_delete f sort shows) = IsAskableFilter f
IsAskable (create_collection name) = ⊤
IsAskable find_collections = ⊤
IsAskable (delete_collection name) = ⊤
