-- A change of one id, on condition of the number under it. Only the crate's private clauses cite TryAnswers and IsTry.
use Rattle.std.specs.Prelude.{◌≡◌, ◌≢◌, ℕ, ⊤, Option, Some, None}
use Rattle.std.specs.Option.{option_map}
use Rattle.json_tree.specs.Tree.{Tree}
use Rattle.shred_cols.specs.Rows.{Rows, version_of}
use Rattle.store_core.specs.declared.keep.Tried.{Tried}
use Rattle.store_core.specs.declared.keep.Tried.TheVariants as t
use Rattle.store_core.specs.declared.entry.Change.{Change}
use Rattle.store_core.specs.declared.entry.Change.TheVariants.{Insert, Replace, Update, Delete}

-- no number is read exactly for an insertion
abbrev pub IsRead : Change → Option ℕ → Type 0
IsRead (Insert doc) None = ⊤
IsRead (Insert doc) (Some tx) = ⊥
IsRead (Replace doc) None = ⊥
IsRead (Replace doc) (Some tx) = ⊤
IsRead (Update updates moment doc) None = ⊥
IsRead (Update updates moment doc) (Some tx) = ⊤
IsRead Delete None = ⊥
IsRead Delete (Some tx) = ⊤

-- the number under an id
abbrev pub number_in : Tree → Rows → Option ℕ
number_in id rows = option_map (λ v. v.tx) (version_of id rows)

-- when each answer comes, by the rows of the collection
abbrev pub TryAnswers : Option Rows → Tree → Option ℕ → Tried → Type 0
TryAnswers rows id read t.Done = (r : Rows) × (rows ≡ Some r) × (number_in id r ≡ read)
TryAnswers rows id read (t.Differs found) = (r : Rows) × (rows ≡ Some r) × (number_in id r ≡ found) × (found ≢ read)
TryAnswers rows id read t.NoCollection = rows ≡ None
TryAnswers rows id read t.Failed = ⊤
TryAnswers rows id read t.NoMemory = ⊤

-- another number was found, whatever the keeper tells
abbrev pub IsTry : Option ℕ → Tried → Type 0
IsTry read t.Done = ⊤
IsTry read (t.Differs found) = found ≢ read
IsTry read t.NoCollection = ⊤
IsTry read t.Failed = ⊤
IsTry read t.NoMemory = ⊤
