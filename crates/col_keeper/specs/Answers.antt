-- When each answer of a keeper comes, by the tables.
use Rattle.std.specs.Prelude.{◌≡◌, ◌≢◌, ◌↔◌, ℕ, ◌<◌, ◌≤◌, ⊤, true, map, length, Option, Some, None, Result, Ok, Err}
use Rattle.json_tree.specs.Tree.{Tree}
use Rattle.shred_cols.specs.declared.probe.Probe.{Probe}
use Rattle.shred_cols.specs.Columns.{IsColumns}
use Rattle.shred_cols.specs.Row.{Version}
use Rattle.col_keeper.specs.Pages.{page_of, IsEnd}
use Rattle.col_keeper.specs.declared.answer.KeepFault.{KeepFault}
use Rattle.col_keeper.specs.declared.answer.KeepFault.TheVariants as f
use Rattle.col_keeper.specs.declared.answer.Walked.{Walked}
use Rattle.col_keeper.specs.declared.answer.Stored.{Stored}
use Rattle.shred_cols.specs.Rows.{Rows, keyed, version_of, is_after, next_of}
use Rattle.col_keeper.specs.Tables.{Name, Collections, rows_in, IsShort}
use Rattle.col_keeper.specs.declared.answer.Kept2.{Kept2}
use Rattle.col_keeper.specs.declared.answer.Kept2.TheVariants as k
use Rattle.col_keeper.specs.declared.answer.Made.{Made}
use Rattle.col_keeper.specs.declared.answer.Made.TheVariants as m
use Rattle.col_keeper.specs.declared.answer.Dropped.{Dropped}
use Rattle.col_keeper.specs.declared.answer.Dropped.TheVariants as d

-- the collection lives, and an id stands there with this number
abbrev pub Stands : Option Rows → Tree → ℕ → Type 0
Stands None id tx = ⊥
Stands (Some rows) id tx = (v : Version) × (version_of id rows ≡ Some v) × (v.tx ≡ tx)

-- the collection lives, and nothing stands under the id
abbrev pub IsFree : Option Rows → Tree → Type 0
IsFree None id = ⊥
IsFree (Some rows) id = version_of id rows ≡ None

-- the answers of an insertion
abbrev pub InsertAnswers : Option Rows → Tree → Kept2 → Type 0
InsertAnswers rows id k.Done = IsFree rows id
InsertAnswers rows id (k.Taken tx) = Stands rows id tx
InsertAnswers rows id k.Absent = ⊥
InsertAnswers rows id (k.Other tx) = ⊥
InsertAnswers rows id k.NoCollection = rows ≡ None
InsertAnswers rows id k.Failed = ⊤
InsertAnswers rows id k.NoMemory = ⊤

-- the answers of a write on condition of the number that was read
abbrev pub ChangeAnswers : Option Rows → Tree → ℕ → Kept2 → Type 0
ChangeAnswers rows id read k.Done = Stands rows id read
ChangeAnswers rows id read (k.Taken tx) = ⊥
ChangeAnswers rows id read k.Absent = IsFree rows id
ChangeAnswers rows id read (k.Other tx) = Stands rows id tx
ChangeAnswers rows id read k.NoCollection = rows ≡ None
ChangeAnswers rows id read k.Failed = ⊤
ChangeAnswers rows id read k.NoMemory = ⊤

-- an insertion may answer so, whatever the keeper tells
abbrev pub IsInsertAnswer : Kept2 → Type 0
IsInsertAnswer k.Done = ⊤
IsInsertAnswer (k.Taken tx) = ⊤
IsInsertAnswer k.Absent = ⊥
IsInsertAnswer (k.Other tx) = ⊥
IsInsertAnswer k.NoCollection = ⊤
IsInsertAnswer k.Failed = ⊤
IsInsertAnswer k.NoMemory = ⊤

-- a write on condition of the number that was read may answer so, whatever the keeper tells
abbrev pub IsChangeAnswer : ℕ → Kept2 → Type 0
IsChangeAnswer read k.Done = ⊤
IsChangeAnswer read (k.Taken tx) = ⊥
IsChangeAnswer read k.Absent = ⊤
IsChangeAnswer read (k.Other tx) = tx ≢ read
IsChangeAnswer read k.NoCollection = ⊤
IsChangeAnswer read k.Failed = ⊤
IsChangeAnswer read k.NoMemory = ⊤

-- the answers of a creation where so many collections may live
abbrev pub CreateAnswers : Collections → Name → ℕ → Made → Type 0
CreateAnswers cs name most m.Done = (rows_in name cs ≡ None) × (length cs < most)
CreateAnswers cs name most m.There = (rows : Rows) × (rows_in name cs ≡ Some rows)
CreateAnswers cs name most (m.Full found) = (rows_in name cs ≡ None) × (most ≤ length cs) × (found ≡ length cs)
CreateAnswers cs name most m.Failed = ⊤
CreateAnswers cs name most m.NoMemory = ⊤

-- the answers of a dropping
abbrev pub DropAnswers : Option Rows → Dropped → Type 0
DropAnswers rows d.Done = (r : Rows) × (rows ≡ Some r)
DropAnswers rows d.Absent = rows ≡ None
DropAnswers rows d.Failed = ⊤
DropAnswers rows d.NoMemory = ⊤

-- the refusals of a call that reads
abbrev pub Refuses : Option Rows → KeepFault → Type 0
Refuses rows f.NoCollection = rows ≡ None
Refuses rows f.Failed = ⊤
Refuses rows f.NoMemory = ⊤

-- the answers of a look at an id
abbrev pub GetAnswers : Option Rows → Tree → Result (Option Version) KeepFault → Type 0
GetAnswers rows id (Err e) = Refuses rows e
GetAnswers None id (Ok row) = ⊥
GetAnswers (Some rows) id (Ok row) = version_of id rows ≡ row

-- the answers of a walk
abbrev pub WalkAnswers : Option Rows → Probe → Option Tree → ℕ → Result Walked KeepFault → Type 0
WalkAnswers rows probe after up_to (Err e) = Refuses rows e
WalkAnswers None probe after up_to (Ok w) = ⊥
WalkAnswers (Some rows) probe after up_to (Ok w) = (map keyed w.rows.items ≡ page_of probe after up_to rows) × ((w.end ≡ true) ↔ IsEnd probe after up_to rows)

-- the id is after the given one, and has at most 8,001 key bytes
abbrev pub IsAbove : Option Tree → Tree → Type 0
IsAbove after id = (is_after after id ≡ true) × IsShort id

-- a row as it is stored, by the tables
abbrev pub IsStored : Option (Tree × Version) → Option Stored → Type 0
IsStored None None = ⊤
IsStored None (Some s) = ⊥
IsStored (Some e) None = ⊥
IsStored (Some e) (Some s) = (s.id ≡ e.0) × (s.tx ≡ e.1.tx) × (s.doc ≡ e.1.doc) × IsColumns e.1.doc s.entries

-- the answers of a look at the next row
abbrev pub StoredAnswers : Option Rows → Option Tree → Result (Option Stored) KeepFault → Type 0
StoredAnswers rows after (Err e) = Refuses rows e
StoredAnswers None after (Ok s) = ⊥
StoredAnswers (Some rows) after (Ok s) = IsStored (next_of after rows) s
