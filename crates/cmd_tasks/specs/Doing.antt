-- What is done to a document that matches.
use Rattle.std.specs.Prelude.{ℤ, false, List, Option, Some, None, Result, Ok, Err, if◌then◌else◌}
use Rattle.json_tree.specs.Tree.{Tree}
use Rattle.json_tree.specs.Same.{same}
use Rattle.filter_tree.specs.Filters.{FilterTree}
use Rattle.filter_tree.specs.Equalities.{equalities}
use Rattle.update_ops.specs.Clauses.{Clause}
use Rattle.update_ops.specs.Apply.{apply}
use Rattle.update_ops.specs.Upsert.{replaced, upsert, upsert_replacement}
use Rattle.update_ops.specs.declared.fault.UpdateFault.{UpdateFault}
use Rattle.store_core.specs.declared.entry.Change.{Change}
use Rattle.store_core.specs.declared.entry.Change.TheVariants.{Replace, Update, Delete}

-- another document is made of it: by updates as of a moment, or by a replacement
pub data Making : Type 0 where
  updates : List Clause → ℤ → Making
  replaces : Tree → Making

-- the new document, or the change is refused
abbrev pub made : Making → Tree → Result Tree UpdateFault
made (updates u moment) d = apply u d moment false
made (replaces r) d = replaced r d

-- what is written to store it
abbrev pub written : Making → Tree → Change
written (updates u moment) new = Update u moment new
written (replaces r) new = Replace new

-- the document that is inserted where none matches, under this id unless the filter or the replacement has one
abbrev pub upserted : FilterTree → Making → Tree → Result Tree UpdateFault
upserted f (updates u moment) id = upsert (equalities f) u moment id
upserted f (replaces r) id = upsert_replacement (equalities f) r id

-- It is changed, and where none matches a document may be inserted, for which there is this id; or it is deleted
pub data Doing : Type 0 where
  makes : Making → Option Tree → Doing
  deletes : Doing

-- nothing is written where both documents are the same
abbrev pub change_to : Making → Tree → Result Tree UpdateFault → Result (Option Change) UpdateFault
change_to making d (Ok new) = Ok (if same d new then None else Some (written making new))
change_to making d (Err fault) = Err fault

-- what is written in the place of a document: a change, or nothing, or the change is refused
abbrev pub change_of : Doing → Tree → Result (Option Change) UpdateFault
change_of (makes making up) d = change_to making d (made making d)
change_of deletes d = Ok (Some Delete)

-- the document that is to be inserted where none matches, if one is
abbrev pub upsert_with : FilterTree → Making → Option Tree → Option (Result Tree UpdateFault)
upsert_with f making None = None
upsert_with f making (Some id) = Some (upserted f making id)

abbrev pub upsert_of : FilterTree → Doing → Option (Result Tree UpdateFault)
upsert_of f (makes making up) = upsert_with f making up
upsert_of f deletes = None
