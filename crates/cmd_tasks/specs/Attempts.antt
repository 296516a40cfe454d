-- Attempts to change a document that a look showed.
use Rattle.std.specs.Prelude.{◌≡◌, ◌≢◌, ℕ, List, length, drop, slice_get, Bool, true, not, ◌==◌, ◌&&◌, Option, Some, ◌⊎◌}
use Rattle.std.specs.List.{list_any}
use Rattle.json_tree.specs.Tree.{Tree}
use Rattle.col_keeper.specs.Tables.{Name}
use Rattle.filter_tree.specs.Filters.{FilterTree}
use Rattle.store_core.specs.State.{State, version, number_at}
use Rattle.store_core.specs.Counts.{by_of}
use Rattle.store_core.specs.Numbers.{touches}
use Rattle.store_core.specs.declared.entry.Change.{Change}
use Rattle.store_core.specs.declared.entry.Entry.{Entry}
use Rattle.store_core.specs.declared.entry.Entry.TheVariants.{Changed}
use Rattle.cmd_tasks.specs.Trace.{Sight, Found, now, shown_by}
use Rattle.cmd_tasks.specs.declared.trace.Item.TheVariants.{Wrote, Lost}

-- the element stands in the list
abbrev pub IsOneOf : {A : Type 0} → A → List A → Type 0
IsOneOf x xs = (place : ℕ) × (slice_get xs place ≡ Some x)

-- the entry is by another session, and changes the document of the id or drops its collection
abbrev pub comes_between : Name → ℕ → Tree → Entry → Bool
comes_between coll k id e = not (by_of e == k) && touches coll id e

module _ (base : State) (coll : Name) (k : ℕ) where
  -- the item wrote: an entry by this session, of this change of the document that stood there
  abbrev pub WroteChange : Tree → Change → Option ℕ → Sight → Type 0
  WroteChange id change before s = (s.item ≡ Wrote (length s.past)) × ((tx : ℕ) × (s.entry ≡ Some (Changed k coll id change before tx)))

  -- won: the document stands as it was shown, and the entry changes just this version
  pub record IsWon (x : Found) (change : Change) (s : Sight) : Type 0 where
    pub stands : version (now base coll s) coll x.id ≡ Some (record { tx = x.tx; doc = x.doc })
    pub wrote : WroteChange x.id change (Some x.tx) s

  -- lost: another number stands there, or none, and another session wrote between the look and the attempt
  pub record IsLost (look : Sight) (x : Found) (s : Sight) : Type 0 where
    pub found : Option ℕ
    pub item : s.item ≡ Lost (length s.past) x.tx found
    pub stands : number_at (now base coll s) coll x.id ≡ found
    pub other : found ≢ Some x.tx
    pub between : list_any (comes_between coll k x.id) (drop (length look.past) s.past) ≡ true

  -- one of these looks showed the document, and the sight is an attempt to make this change of it
  abbrev pub IsAttempt : FilterTree → Change → List Sight → Found → Sight → Type 0
  IsAttempt f change looks x s = (look : Sight) × IsOneOf look looks × IsOneOf x (shown_by base coll f look) × (IsWon x change s ⊎ IsLost look x s)
