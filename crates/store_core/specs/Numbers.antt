-- The number under an id, as the entries of a journal tell it.
use Rattle.std.specs.Prelude.{ℕ, List, [], ◌∷◌, Bool, false, ◌&&◌, if◌then◌else◌, Option, Some, None}
use Rattle.std.specs.Option.{option_map}
use Rattle.std.specs.Ordering.{eq_by_cmp}
use Rattle.std.specs.Str.{bytes_eq}
use Rattle.json_tree.specs.Tree.{Tree}
use Rattle.json_tree.specs.Id.{id_cmp}
use Rattle.col_keeper.specs.Tables.{Name}
use Rattle.store_core.specs.Journal.{new_doc}
use Rattle.store_core.specs.declared.entry.Change.{Change}
use Rattle.store_core.specs.declared.entry.Entry.{Entry}
use Rattle.store_core.specs.declared.entry.Entry.TheVariants.{Opened, Created, Dropped, Changed, Failed}

-- the same id of the same collection
abbrev pub is_at : Name → Tree → Name → Tree → Bool
is_at coll id c i = bytes_eq coll c && eq_by_cmp id_cmp id i

-- the entry changes the document of the id, or drops its collection
abbrev pub touches : Name → Tree → Entry → Bool
touches coll id (Opened k) = false
touches coll id (Created by c) = false
touches coll id (Dropped by c) = bytes_eq coll c
touches coll id (Changed by c i change before tx) = is_at coll id c i
touches coll id (Failed by before count) = false

-- the number that a change leaves: its own, or none where the document is gone
abbrev pub left_by : Change → ℕ → Option ℕ
left_by change tx = option_map (λ d. tx) (new_doc change)

-- the number that an entry leaves under an id that it touches
abbrev pub leaves : Entry → Option ℕ
leaves (Opened k) = None
leaves (Created by c) = None
leaves (Dropped by c) = None
leaves (Changed by c i change before tx) = left_by change tx
leaves (Failed by before count) = None

-- the number under an id behind these entries, where the given one stood there before them: that of the last entry
-- that touches it
abbrev pub last_number : Name → Tree → Option ℕ → List Entry → Option ℕ
last_number coll id before [] = before
last_number coll id before (e ∷ es) = last_number coll id (if touches coll id e then leaves e else before) es
