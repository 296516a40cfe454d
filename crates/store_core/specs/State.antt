-- A state of the collections, as a journal leaves it.
use Rattle.std.specs.Prelude.{◌≡◌, ℕ, ◌+◌, ◌-◌, ◌<◌, List, Option, Some, None, refl}
use Rattle.std.specs.Option.{option_map}
use Rattle.std.specs.Coded.{Coded, coded×, coded_ℕ, coded_list, code_by}
use Rattle.json_tree.specs.Tree.{Tree, tree_code}
use Rattle.shred_cols.specs.Row.{Version, version_code}
use Rattle.shred_cols.specs.Rows.{Rows}
use Rattle.col_keeper.specs.Tables.{Name, Collection, Collections, Tables, rows_in, version_at}

-- the collections in order of creation, the number of the next write, how many sessions were opened, and the count
-- of faults entered last
pub record State : Type 0 where
  pub collections : Collections
  pub next : ℕ
  pub sessions : ℕ
  pub faults : ℕ

-- the state in which a history begins: at these tables, the keeper having so many faults
abbrev pub start_of : ℕ → Tables → State
start_of count t = record { collections = t.collections; next = t.last + 1; sessions = 0; faults = count }

-- the tables of a state
abbrev pub tables_of : State → Tables
tables_of s = record { collections = s.collections; last = s.next - 1 }

-- the collection lives
abbrev pub Lives : Name → State → Type 0
Lives coll s = (rows : Rows) × (rows_in coll s.collections ≡ Some rows)

-- the collection doesn't live
abbrev pub IsGone : Name → State → Type 0
IsGone coll s = rows_in coll s.collections ≡ None

-- the document that stands under an id, with the number of the write that stored it
abbrev pub version : State → Name → Tree → Option Version
version s coll id = version_at coll id s.collections

-- the number under an id
abbrev pub number_at : State → Name → Tree → Option ℕ
number_at s coll id = option_map (λ v. v.tx) (version s coll id)

-- each document's number lies below the next one
abbrev pub IsOld : State → Type 0
IsOld s = (coll : Name) (id : Tree) (v : Version) → version s coll id ≡ Some v → v.tx < s.next

abbrev pub collection_code : Coded Collection
collection_code = code_by (List ℕ × List (Tree × Version)) (coded× (coded_list coded_ℕ) (coded_list (coded× tree_code version_code))) (λ c. (c.name, c.rows)) (λ p. record { name = p.0; rows = p.1 }) (λ _. refl)

abbrev pub state_code : Coded State
state_code = code_by (List Collection × (ℕ × (ℕ × ℕ))) (coded× (coded_list collection_code) (coded× coded_ℕ (coded× coded_ℕ coded_ℕ))) (λ s. (s.collections, (s.next, (s.sessions, s.faults)))) (λ p. record { collections = p.0; next = p.1.0; sessions = p.1.1.0; faults = p.1.1.1 }) (λ _. refl)
