-- What a request is served as: its command with the moment at which it is made and the ids that were drawn for it.
use Rattle.std.specs.Prelude.{ℕ, ◌+◌, ℤ, Bool, true, false, List, [], ◌∷◌, Option, Some, None}
use Rattle.json_tree.specs.Tree.{Tree}
use Rattle.json_tree.specs.Doc.{id_in}
use Rattle.shred_cols.specs.Rows.{first}
use Rattle.filter_tree.specs.Filters.{FilterTree}
use Rattle.update_ops.specs.Upsert.{with_id}
use Rattle.view_sort.specs.Sort.{SortKeys}
use Rattle.view_sort.specs.declared.page.PageState.{PageState}
use Rattle.cmd_grammar.specs.Commands.{Shows, Paging, CommandTree, insert_one, insert_many, find_one, find, count_documents, update_one, update_many, delete_one, delete_many, find_one_and_update, find_one_and_replace, find_one_and_delete, create_collection, find_collections, delete_collection}
use Rattle.cmd_tasks.specs.Doing.{Doing, makes, deletes, updates, replaces}

-- How the document is told that was asked for: by counts, or also as it is shown, as it was found or, if this is true, as
-- it was left
pub data Form : Type 0 where
  by_counts : Form
  shows : Shows → Bool → Form

pub data Job : Type 0 where
  -- documents are inserted, each under an id of its own; where they are ordered, the first whose id is taken ends it
  inserts : List Tree → Bool → Job
  finds_one : FilterTree → SortKeys → Shows → Job
  finds : FilterTree → SortKeys → Shows → Paging → Job
  counts : FilterTree → Job
  -- the first match is changed, in the order of the sort
  changes_one : FilterTree → SortKeys → Doing → Form → Job
  -- up to 20 matches are changed, behind the one that the page state tells
  changes_many : FilterTree → Doing → Option PageState → Job
  -- a collection is made, or deleted, or all are named
  creates : Job
  drops : Job
  names : Job

-- ---- ids

-- the next document, which gets an id in front if it has none
abbrev pub under_next : Option Tree → List Tree → Tree → Tree × List Tree
under_next None [] d = (d, [])
under_next None (id ∷ ids) d = (with_id id d, ids)
under_next (Some own) ids d = (d, ids)

-- each document that has no id gets the next one of these in front
abbrev pub under_ids : List Tree → List Tree → List Tree
under_ids ids [] = []
under_ids ids (d ∷ ds) = let next = under_next (id_in d) ids d in next.0 ∷ under_ids next.1 ds

-- how many of them have none
abbrev pub one_if_none : Option Tree → ℕ
one_if_none None = 1
one_if_none (Some own) = 0

abbrev pub without_id : List Tree → ℕ
without_id [] = 0
without_id (d ∷ ds) = one_if_none (id_in d) + without_id ds

abbrev pub one_if : Bool → ℕ
one_if true = 1
one_if false = 0

-- how many ids are drawn for a command: one for each document without one, and one where a document may be inserted since none matches
abbrev pub draws : CommandTree → ℕ
draws (insert_one d) = without_id (d ∷ [])
draws (insert_many ds ordered) = without_id ds
draws (update_one f u sort upsert) = one_if upsert
draws (update_many f u upsert page) = one_if upsert
draws (find_one_and_update f u sort p upsert after) = one_if upsert
draws (find_one_and_replace f r sort p upsert after) = one_if upsert
draws c = 0

-- the id of a document that may be inserted since none matches
abbrev pub upsert_id : Bool → List Tree → Option Tree
upsert_id true ids = first ids
upsert_id false ids = None

-- ---- jobs

-- the job of a command that was asked for at this moment, with these ids drawn for it
abbrev pub job_of : ℤ → List Tree → CommandTree → Job
job_of moment ids (insert_one d) = inserts (under_ids ids (d ∷ [])) true
job_of moment ids (insert_many ds ordered) = inserts (under_ids ids ds) ordered
job_of moment ids (find_one f sort p) = finds_one f sort p
job_of moment ids (find f sort p paging) = finds f sort p paging
job_of moment ids (count_documents f) = counts f
job_of moment ids (update_one f u sort upsert) = changes_one f sort (makes (updates u moment) (upsert_id upsert ids)) by_counts
job_of moment ids (update_many f u upsert page) = changes_many f (makes (updates u moment) (upsert_id upsert ids)) page
job_of moment ids (delete_one f sort) = changes_one f sort deletes by_counts
job_of moment ids (delete_many f) = changes_many f deletes None
job_of moment ids (find_one_and_update f u sort p upsert after) = changes_one f sort (makes (updates u moment) (upsert_id upsert ids)) (shows p after)
job_of moment ids (find_one_and_replace f r sort p upsert after) = changes_one f sort (makes (replaces r) (upsert_id upsert ids)) (shows p after)
job_of moment ids (find_one_and_delete f sort p) = changes_one f sort deletes (shows p false)
job_of moment ids (create_collection name) = creates
job_of moment ids find_collections = names
job_of moment ids (delete_collection name) = drops
