-- Insertions: of the documents of a request, or of one document since none matched.
use Rattle.std.specs.Prelude.{◌≡◌, ◌⊎◌, ℕ, List, [], ◌∷◌, ◌++◌, length, slice_get, Bool, true, false, ◌&&◌, Option, Some, None, if◌then◌else◌}
use Rattle.json_tree.specs.Tree.{Tree}
use Rattle.shred_cols.specs.Row.{id_of}
use Rattle.col_keeper.specs.Tables.{Name}
use Rattle.reply_env.specs.Messages as errors
use Rattle.reply_env.specs.Reply.{TellsInserted, IsRefusalOf}
use Rattle.reply_env.specs.declared.reply.ErrorItem.{ErrorItem}
use Rattle.reply_env.specs.declared.reply.Reply.{Reply}
use Rattle.reply_env.specs.declared.reply.Reply.TheVariants.{Inserted}
use Rattle.store_core.specs.State.{State, number_at}
use Rattle.store_core.specs.declared.entry.Change.TheVariants.{Insert}
use Rattle.cmd_tasks.specs.Trace.{Sight, now}
use Rattle.cmd_tasks.specs.Attempts.{WroteChange}
use Rattle.cmd_tasks.specs.declared.trace.Item.{Item}
use Rattle.cmd_tasks.specs.declared.trace.Item.TheVariants.{Looked, Wrote, Lost, Faulted}

module _ (base : State) (coll : Name) (k : ℕ) where
  -- the id isn't there, and the document is written by this session
  pub record IsInserted (d : Tree) (s : Sight) : Type 0 where
    pub absent : number_at (now base coll s) coll (id_of d) ≡ None
    pub wrote : WroteChange base coll k (id_of d) (Insert d) None s

  -- its id is there
  pub record IsTaken (d : Tree) (tx : ℕ) (s : Sight) : Type 0 where
    pub item : s.item ≡ Lost (length s.past) 0 (Some tx)
    pub there : number_at (now base coll s) coll (id_of d) ≡ Some tx

  -- the sight is of the insertion of this document
  abbrev pub IsInsertion : Tree → Sight → Type 0
  IsInsertion d s = IsInserted d s ⊎ ((tx : ℕ) × IsTaken d tx s)

-- ---- many documents, of which each has one sight, in order; sights stand with the newest first

-- the id of a document that was written
abbrev pub id_written : Item → Option Tree → List Tree
id_written (Wrote at) (Some d) = id_of d ∷ []
id_written item d = []

-- the error of one whose id was there
abbrev pub error_of_double : Item → Option Tree → List ErrorItem
error_of_double (Lost at read (Some tx)) (Some d) = errors.already_exists (id_of d) tx ∷ []
error_of_double item d = []

abbrev pub is_any : List ErrorItem → Bool
is_any [] = false
is_any (e ∷ es) = true

module _ (ds : List Tree) where
  -- the ids of the documents that were inserted, in order
  abbrev pub inserted : List Sight → List Tree
  inserted [] = []
  inserted (s ∷ earlier) = inserted earlier ++ id_written s.item (slice_get ds (length earlier))

  -- the errors of those whose ids were there, in order
  abbrev pub doubles : List Sight → List ErrorItem
  doubles [] = []
  doubles (s ∷ earlier) = doubles earlier ++ error_of_double s.item (slice_get ds (length earlier))

  -- the document that comes next; where they are ordered, none does behind one whose id was there
  abbrev pub next_document : Bool → List Sight → Option Tree
  next_document ordered sights = if ordered && is_any (doubles sights) then None else slice_get ds (length sights)

-- the reply tells these ids; or these errors, with the ids beside them if there are any
abbrev pub TellsIds : List Tree → Reply → Type 0
TellsIds ids (Inserted told) = told.items ≡ ids
TellsIds ids reply = ⊥

abbrev pub TellsInsertions : List Tree → List ErrorItem → Reply → Type 0
TellsInsertions ids [] reply = TellsIds ids reply
TellsInsertions ids (e ∷ es) reply = IsRefusalOf (e ∷ es) (TellsInserted ids) reply
