-- What became of the one document that a command asked for, and how its reply tells it.
use Rattle.std.specs.Prelude.{◌≡◌, ℕ, Bool, Option, Some, None, Result, Ok, Err, if◌then◌else◌}
use Rattle.std.specs.Option.{option_map}
use Rattle.json_tree.specs.Tree.{Tree}
use Rattle.json_tree.specs.View.{tree}
use Rattle.shred_cols.specs.Row.{id_of}
use Rattle.filter_tree.specs.Filters.{FilterTree}
use Rattle.update_ops.specs.declared.fault.UpdateFault.{UpdateFault}
use Rattle.view_sort.specs.View.{view}
use Rattle.reply_env.specs.Reply.{IsRefusal}
use Rattle.reply_env.specs.declared.reply.Reply.{Reply}
use Rattle.reply_env.specs.declared.reply.Reply.TheVariants.{Updated, Deleted, FoundAndChanged, FoundAndDeleted}
use Rattle.cmd_grammar.specs.Refused.{update_error}
use Rattle.store_core.specs.Journal.{new_doc}
use Rattle.store_core.specs.declared.entry.Change.{Change}
use Rattle.cmd_tasks.specs.Doing.{Doing, makes, deletes, change_of, upsert_of}
use Rattle.cmd_tasks.specs.Jobs.{Form, by_counts, shows}

-- The document as it was found and as it was left, how many were changed, and the id of one that was inserted since none matched
pub record Outcome : Type 0 where
  pub old : Option Tree
  pub new : Option Tree
  pub modified : ℕ
  pub upserted : Option Tree

-- none matched
abbrev pub none_found : Outcome
none_found = record { old = None; new = None; modified = 0; upserted = None }

-- the document stays as it is
abbrev pub unchanged : Tree → Outcome
unchanged d = record { old = Some d; new = Some d; modified = 0; upserted = None }

-- the change of the document was written
abbrev pub changed : Change → Tree → Outcome
changed change d = record { old = Some d; new = new_doc change; modified = 1; upserted = None }

-- none matched, and this document was inserted
abbrev pub put : Tree → Outcome
put d = record { old = None; new = Some d; modified = 0; upserted = Some (id_of d) }

-- how many were found
abbrev pub count : Option Tree → ℕ
count None = 0
count (Some d) = 1

-- the document that is shown: as it was left, or as it was found
abbrev pub shown_of : Bool → Outcome → Option Tree
shown_of after o = if after then o.new else o.old

-- the reply shows this document, or none, and the counts of a change
abbrev pub ShowsChange : Option Tree → Outcome → Reply → Type 0
ShowsChange d o (FoundAndChanged view matched modified upserted) = (option_map tree view ≡ d) × (matched ≡ count o.old) × (modified ≡ o.modified) × (upserted ≡ o.upserted)
ShowsChange d o reply = ⊥

-- the same of a deletion
abbrev pub ShowsDeletion : Option Tree → Outcome → Reply → Type 0
ShowsDeletion d o (FoundAndDeleted view deleted) = (option_map tree view ≡ d) × (deleted ≡ count o.old)
ShowsDeletion d o reply = ⊥

-- the reply tells the outcome of a change
abbrev pub TellsChange : Form → Outcome → Reply → Type 0
TellsChange by_counts o reply = reply ≡ Updated (count o.old) o.modified o.upserted
TellsChange (shows p after) o reply = ShowsChange (option_map (view p) (shown_of after o)) o reply

-- the reply tells the outcome of a deletion, which shows the document as it was found
abbrev pub TellsDeletion : Form → Outcome → Reply → Type 0
TellsDeletion by_counts o reply = reply ≡ Deleted (count o.old)
TellsDeletion (shows p after) o reply = ShowsDeletion (option_map (view p) o.old) o reply

-- the reply tells the outcome
abbrev pub Tells : Doing → Form → Outcome → Reply → Type 0
Tells (makes making up) form o reply = TellsChange form o reply
Tells deletes form o reply = TellsDeletion form o reply

-- ---- where no write is needed

-- the document that was found stays as it is, or its change is refused
abbrev pub TellsMet : Doing → Form → Tree → Result (Option Change) UpdateFault → Reply → Type 0
TellsMet doing form d (Ok None) reply = Tells doing form (unchanged d) reply
TellsMet doing form d (Ok (Some change)) reply = ⊥
TellsMet doing form d (Err fault) reply = IsRefusal (update_error fault) reply

abbrev pub TellsUnwritten : Doing → Form → Tree → Reply → Type 0
TellsUnwritten doing form d reply = TellsMet doing form d (change_of doing d) reply

-- none matched, and none is inserted: none is to be, or the one that was to be is refused
abbrev pub TellsUnput : Doing → Form → Option (Result Tree UpdateFault) → Reply → Type 0
TellsUnput doing form None reply = Tells doing form none_found reply
TellsUnput doing form (Some (Ok d)) reply = ⊥
TellsUnput doing form (Some (Err fault)) reply = IsRefusal (update_error fault) reply

abbrev pub TellsNone : FilterTree → Doing → Form → Reply → Type 0
TellsNone f doing form reply = TellsUnput doing form (upsert_of f doing) reply

-- the document that is to be inserted, if none is refused
abbrev pub ready : Option (Result Tree UpdateFault) → Option Tree
ready None = None
ready (Some (Ok d)) = Some d
ready (Some (Err fault)) = None
