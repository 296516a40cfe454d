-- What each answer of a call says of the store before the call and after it.
use Rattle.std.specs.Prelude.{◌≡◌, ◌≢◌, ◌↔◌, ℕ, ◌-◌, ◌^◌, ◌<◌, ◌≤◌, List, [], ◌∷◌, ◌++◌, map, length, Bool, true, Option, Some, None, IfSome}
use Rattle.outside_io.specs.Causes.{Rose}
use Rattle.json_tree.specs.Tree.{Tree}
use Rattle.shred_cols.specs.Row.{Version, id_of}
use Rattle.shred_cols.specs.Rows.{Rows, ascends, keyed}
use Rattle.shred_cols.specs.declared.probe.Probe.{Probe}
use Rattle.col_keeper.specs.Tables.{Name, IsShort, names_of, rows_in}
use Rattle.col_keeper.specs.Pages.{IsPage, IsEnd, page_of}
use Rattle.store_core.specs.State.{Lives, IsGone, version, number_at}
use Rattle.store_core.specs.Store.{Stored, AtState, next_of}
use Rattle.store_core.specs.declared.entry.Change.{Change}
use Rattle.store_core.specs.declared.entry.Entry.{Entry}
use Rattle.store_core.specs.declared.entry.Entry.TheVariants as e
use Rattle.store_core.specs.declared.outcome.WriteOutcome.{WriteOutcome}
use Rattle.store_core.specs.declared.outcome.WriteOutcome.TheVariants as w
use Rattle.store_core.specs.declared.outcome.Looked.{Looked}
use Rattle.store_core.specs.declared.outcome.Looked.TheVariants as l
use Rattle.store_core.specs.declared.outcome.Paged.{Paged}
use Rattle.store_core.specs.declared.outcome.Paged.TheVariants as p
use Rattle.store_core.specs.declared.outcome.Shaped.{Shaped}
use Rattle.store_core.specs.declared.outcome.Shaped.TheVariants as sh
use Rattle.store_core.specs.declared.outcome.Listed.{Listed}
use Rattle.store_core.specs.declared.outcome.Listed.TheVariants as li

-- the entry of a failed call, where a session made it
abbrev pub fault_of : Option ℕ → ℕ → ℕ → List Entry
fault_of None before count = []
fault_of (Some by) before count = e.Failed by before count ∷ []

-- the page is the first 64 of the rows after an id that meet the probe, and is the end where there are no more
abbrev pub ShowsPage : Probe → Option Tree → Rows → List Version → Bool → Type 0
ShowsPage probe after rows page end = (map keyed page ≡ page_of probe after 64 rows) × ((end ≡ true) ↔ IsEnd probe after 64 rows)

module _ {K : Type 0} where
  -- the call's point is the length of the journal, which it leaves
  abbrev pub Stays : Stored K → Stored K → ℕ → Type 0
  Stays old new at = (at ≡ length old.journal) × (new.journal ≡ old.journal)

  -- the call appends this entry
  abbrev pub Appends : Stored K → Stored K → ℕ → Entry → Type 0
  Appends old new at entry = (at ≡ length old.journal) × (new.journal ≡ old.journal ++ entry ∷ [])

module _ {K : Type 0} (failed : K → ℕ) where
  -- a call of the keeper failed, which its count shows: it is entered, where a session made it
  pub record Fails (by : Option ℕ) (old new : Stored K) (at before count : ℕ) : Type 0 where
    pub point : at ≡ length old.journal
    pub entered : new.journal ≡ old.journal ++ fault_of by before count
    pub before_is : before ≡ failed old.keeper
    pub count_is : count ≡ failed new.keeper
    pub rose : Rose before count

  -- a write, on condition of the number that was read
  abbrev pub Writes : ℕ → Name → Tree → Option ℕ → Change → Stored K → Stored K → WriteOutcome → Type 0
  Writes by coll id read change old new (w.Written at tx) =
      Appends old new at (e.Changed by coll id change read tx) × (tx ≡ next_of old)
      × AtState old (λ s. Lives coll s × (number_at s coll id ≡ read))
  Writes by coll id read change old new (w.Lost at found) =
      Stays old new at × (found ≢ read) × AtState old (λ s. Lives coll s × (number_at s coll id ≡ found))
  Writes by coll id read change old new (w.NoCollection at) = Stays old new at × AtState old (IsGone coll)
  Writes by coll id read change old new (w.VersionsSpent at) = Stays old new at × (next_of old ≡ 2 ^ 63 - 1)
  Writes by coll id read change old new (w.Fault at before count) = Fails (Some by) old new at before count
  Writes by coll id read change old new w.NoMemory = new.journal ≡ old.journal

  -- a look at an id
  abbrev pub Looks : Option ℕ → Name → Tree → Stored K → Stored K → Looked → Type 0
  Looks by coll id old new (l.Row at row) =
      Stays old new at × IfSome row (λ v. IsShort (id_of v.doc))
      × AtState old (λ s. Lives coll s × (version s coll id ≡ row) × IfSome row (λ v. id_of v.doc ≡ id))
  Looks by coll id old new (l.NoCollection at) = Stays old new at × AtState old (IsGone coll)
  Looks by coll id old new (l.Fault at before count) = Fails by old new at before count
  Looks by coll id old new l.NoMemory = new.journal ≡ old.journal

  -- a page of at most 64 rows, of a collection in the order of ids
  abbrev pub Pages : Option ℕ → Name → Probe → Option Tree → Stored K → Stored K → Paged → Type 0
  Pages by coll probe after old new (p.Rows at page end) =
      Stays old new at × IsPage after 64 page.items end
      × AtState old (λ s. (rows : Rows) × (rows_in coll s.collections ≡ Some rows) × (ascends rows ≡ true) × ShowsPage probe after rows page.items end)
  Pages by coll probe after old new (p.NoCollection at) = Stays old new at × AtState old (IsGone coll)
  Pages by coll probe after old new (p.Fault at before count) = Fails by old new at before count
  Pages by coll probe after old new p.NoMemory = new.journal ≡ old.journal

  -- the list of the collections
  abbrev pub Lists : Option ℕ → Stored K → Stored K → Listed → Type 0
  Lists by old new (li.Names at names) = Stays old new at × AtState old (λ s. names.items ≡ names_of s.collections)
  Lists by old new (li.Fault at before count) = Fails by old new at before count
  Lists by old new li.NoMemory = new.journal ≡ old.journal

  -- the creation of a collection, of which at most 100 live
  abbrev pub Creates : ℕ → Name → Stored K → Stored K → Shaped → Type 0
  Creates by coll old new (sh.Done at) =
      Appends old new at (e.Created by coll) × AtState old (λ s. IsGone coll s × (length s.collections < 100))
  Creates by coll old new (sh.Same at) = Stays old new at × AtState old (Lives coll)
  Creates by coll old new (sh.TooMany at found) =
      Stays old new at × AtState old (λ s. IsGone coll s × (100 ≤ length s.collections) × (found ≡ length s.collections))
  Creates by coll old new (sh.Fault at before count) = Fails (Some by) old new at before count
  Creates by coll old new sh.NoMemory = new.journal ≡ old.journal

  -- the dropping of a collection
  abbrev pub Drops : ℕ → Name → Stored K → Stored K → Shaped → Type 0
  Drops by coll old new (sh.Done at) = Appends old new at (e.Dropped by coll) × AtState old (Lives coll)
  Drops by coll old new (sh.Same at) = Stays old new at × AtState old (IsGone coll)
  Drops by coll old new (sh.TooMany at found) = ⊥
  Drops by coll old new (sh.Fault at before count) = Fails (Some by) old new at before count
  Drops by coll old new sh.NoMemory = new.journal ≡ old.journal
