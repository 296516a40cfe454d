-- What a keeper holds: collections of versions under their ids, and the number of the last write.
use Rattle.std.specs.Prelude.{◌≡◌, ℕ, ⊤, ◌-◌, ◌^◌, ◌<◌, ◌≤◌, true, List, [], ◌∷◌, ◌++◌, map, length, Option, Some, None, if◌then◌else◌, option_and_then}
use Rattle.std.specs.List.{AllByRecursion as Each}
use Rattle.std.specs.Str.{bytes_eq}
use Rattle.json_tree.specs.Tree.{Tree}
use Rattle.json_tree.specs.Id.{IsId, key_of}
use Rattle.shred_cols.specs.Row.{Version, id_of}
use Rattle.shred_cols.specs.Rows.{Rows, version_of, ascends}
use Rattle.doc_limits.specs.Limits.{broken}

abbrev pub Name : Type 0
Name = List ℕ

pub record Collection : Type 0 where
  pub name : Name
  pub rows : Rows

-- the collections in order of creation
abbrev pub Collections : Type 0
Collections = List Collection

-- the rows of the collection of that name, if it lives
abbrev pub rows_in : Name → Collections → Option Rows
rows_in name [] = None
rows_in name (c ∷ cs) = if bytes_eq name c.name then Some c.rows else rows_in name cs

-- the version under an id in the collection of that name
abbrev pub version_at : Name → Tree → Collections → Option Version
version_at name id cs = option_and_then (version_of id) (rows_in name cs)

-- the collections with other rows in the one of that name
abbrev pub with_rows : Name → (Rows → Rows) → Collections → Collections
with_rows name f [] = []
with_rows name f (c ∷ cs) = if bytes_eq name c.name then record c { rows = f c.rows } ∷ cs else c ∷ with_rows name f cs

-- the collections with an empty one more
abbrev pub with_collection : Name → Collections → Collections
with_collection name cs = cs ++ record { name = name; rows = [] } ∷ []

-- the collections without the one of that name
abbrev pub without_collection : Name → Collections → Collections
without_collection name [] = []
without_collection name (c ∷ cs) = if bytes_eq name c.name then cs else c ∷ without_collection name cs

abbrev pub names_of : Collections → List Name
names_of cs = map (λ c. c.name) cs

-- the collections, and the number of the last write
pub record Tables : Type 0 where
  pub collections : Collections
  pub last : ℕ

-- what a write leaves: other rows in a collection, and its number as the last one
abbrev pub written : Name → (Rows → Rows) → ℕ → Tables → Tables
written name change tx t = record { collections = with_rows name change t.collections; last = tx }

-- what a creation leaves
abbrev pub created : Name → Tables → Tables
created name t = record t { collections = with_collection name t.collections }

-- what a dropping leaves
abbrev pub dropped : Name → Tables → Tables
dropped name t = record t { collections = without_collection name t.collections }

-- the id has at most 8,001 key bytes
abbrev pub IsShort : Tree → Type 0
IsShort id = length (key_of id) ≤ 8001

-- the document breaks no limit
abbrev pub KeepsLimits : Tree → Type 0
KeepsLimits doc = broken doc ≡ None

-- the version stands under its document's id, and its number isn't over the last one
abbrev pub IsEntry : ℕ → Tree × Version → Type 0
IsEntry last e = (id_of e.1.doc ≡ e.0) × IsId e.0 × IsShort e.0 × (e.1.tx ≤ last)

-- in the order of ids, each version is an entry
pub record IsCollection (last : ℕ) (rows : Rows) : Type 0 where
  pub ascends : ascends rows ≡ true
  pub entries : Each (IsEntry last) rows

-- the names differ
abbrev pub AreApart : Collections → Type 0
AreApart [] = ⊤
AreApart (c ∷ cs) = (rows_in c.name cs ≡ None) × AreApart cs

-- the last number is at most 2^63 - 2, no version's number is over it, and the collections' names differ
pub record IsTables (t : Tables) : Type 0 where
  pub bounded : t.last < 2 ^ 63 - 1
  pub rows : Each (λ c. IsCollection t.last c.rows) t.collections
  pub apart : AreApart t.collections
