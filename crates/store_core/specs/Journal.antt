-- The journal: where an entry is legal, and the state after it.
use Rattle.std.specs.Prelude.{◌≡◌, ℕ, ◌+◌, ◌-◌, ◌^◌, ◌<◌, ◌≤◌, ◌⊎◌, ⊤, List, [], ◌∷◌, length, take, false, Option, Some, None, IfSome, Ok}
use Rattle.json_tree.specs.Tree.{Tree}
use Rattle.shred_cols.specs.Row.{Version, id_of}
use Rattle.shred_cols.specs.Rows.{Rows, with_version, without}
use Rattle.update_ops.specs.Apply.{apply}
use Rattle.col_keeper.specs.Tables.{Name, KeepsLimits, with_rows, with_collection, without_collection}
use Rattle.store_core.specs.State.{State, Lives, IsGone, version}
use Rattle.store_core.specs.declared.entry.Entry.{Entry}
use Rattle.store_core.specs.declared.entry.Entry.TheVariants.{Opened, Created, Dropped, Changed, Failed}
use Rattle.store_core.specs.declared.entry.Change.{Change}
use Rattle.store_core.specs.declared.entry.Change.TheVariants.{Insert, Replace, Update, Delete}

-- the new document of a change, if it has one
abbrev pub new_doc : Change → Option Tree
new_doc (Insert doc) = Some doc
new_doc (Replace doc) = Some doc
new_doc (Update updates moment doc) = Some doc
new_doc Delete = None

-- the rows after a change of one id
abbrev pub put : Tree → ℕ → Option Tree → Rows → Rows
put id tx None rows = without id rows
put id tx (Some doc) rows = with_version id (record { tx = tx; doc = doc }) rows

-- the state after an entry
abbrev pub after : State → Entry → State
after s (Opened k) = record s { sessions = s.sessions + 1 }
after s (Created by coll) = record s { collections = with_collection coll s.collections }
after s (Dropped by coll) = record s { collections = without_collection coll s.collections }
after s (Changed by coll id change before tx) = record s { collections = with_rows coll (put id tx (new_doc change)) s.collections; next = s.next + 1 }
after s (Failed by before count) = record s { faults = count }

-- an insertion is of an id that isn't there, and every other change of one that is, with the number before
abbrev pub FitsVersion : Change → Option Version → Option ℕ → Type 0
FitsVersion (Insert doc) found before = (found ≡ None) × (before ≡ None)
FitsVersion (Replace doc) found before = (v : Version) × (found ≡ Some v) × (before ≡ Some v.tx)
FitsVersion (Update updates moment doc) found before = (v : Version) × (found ≡ Some v) × (before ≡ Some v.tx)
FitsVersion Delete found before = (v : Version) × (found ≡ Some v) × (before ≡ Some v.tx)

-- a new document has the id, and breaks no limit
abbrev pub FitsId : Tree → Option Tree → Type 0
FitsId id doc = IfSome doc (λ d. (id_of d ≡ id) × KeepsLimits d)

-- the new document of an update is what its clauses make, at its moment, of the document that stands there
abbrev pub IsMade : Change → Option Version → Type 0
IsMade (Insert doc) found = ⊤
IsMade (Replace doc) found = ⊤
IsMade (Update updates moment doc) found = IfSome found (λ v. apply updates v.doc moment false ≡ Ok doc)
IsMade Delete found = ⊤

-- the same where the number that stands there is the one that was read
abbrev pub IsMadeOfRead : Change → Option ℕ → Option Version → Type 0
IsMadeOfRead (Insert doc) read found = ⊤
IsMadeOfRead (Replace doc) read found = ⊤
IsMadeOfRead (Update updates moment doc) read found = IfSome found (λ v. read ≡ Some v.tx → apply updates v.doc moment false ≡ Ok doc)
IsMadeOfRead Delete read found = ⊤

-- the change may be made in this state, as the write of this number
pub record LegalChange (s : State) (coll : Name) (id : Tree) (change : Change) (before : Option ℕ) (tx : ℕ) : Type 0 where
  pub lives : Lives coll s
  pub next : tx ≡ s.next
  pub left : tx < 2 ^ 63 - 1
  pub new : FitsId id (new_doc change)
  pub found : FitsVersion change (version s coll id) before
  pub made : IsMade change (version s coll id)

-- the session was opened
abbrev pub IsOpen : ℕ → State → Type 0
IsOpen k s = k < s.sessions

-- the count rose, or stands at its end
abbrev pub Raised : ℕ → ℕ → Type 0
Raised before count = (before < count) ⊎ ((before ≡ 2 ^ 64 - 1) × (count ≡ 2 ^ 64 - 1))

-- the entry may come next in this state
abbrev pub Legal : State → Entry → Type 0
Legal s (Opened k) = k ≡ s.sessions
Legal s (Created by coll) = IsOpen by s × IsGone coll s × (length s.collections < 100)
Legal s (Dropped by coll) = IsOpen by s × Lives coll s
Legal s (Changed by coll id change before tx) = IsOpen by s × LegalChange s coll id change before tx
Legal s (Failed by before count) = IsOpen by s × (s.faults ≤ before) × Raised before count

-- the state after these entries, one after another
abbrev pub replay : State → List Entry → State
replay s [] = s
replay s (e ∷ es) = replay (after s e) es

-- each entry is legal in its turn
abbrev pub IsJournal : State → List Entry → Type 0
IsJournal s [] = ⊤
IsJournal s (e ∷ es) = Legal s e × IsJournal (after s e) es

-- the state at a point: after that many entries
abbrev pub state_at : State → List Entry → ℕ → State
state_at start journal n = replay start (take n journal)
