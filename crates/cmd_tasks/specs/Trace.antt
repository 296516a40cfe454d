-- What a request saw: items, each with the history at its point; looks and listings.
use Rattle.std.specs.Prelude.{◌≡◌, ℕ, ◌<◌, ◌≤◌, ◌⊎◌, List, [], ◌∷◌, ◌++◌, take, length, map, Bool, true, false, ◌&&◌, Option, Some, None, ⊤, slice_get}
use Rattle.std.specs.List.{filter}
use Rattle.std.specs.Ordering.{is_le}
use Rattle.json_tree.specs.Tree.{Tree}
use Rattle.json_tree.specs.Id.{id_cmp}
use Rattle.shred_cols.specs.declared.probe.Probe.{Probe}
use Rattle.shred_cols.specs.declared.probe.Probe.TheVariants.{All}
use Rattle.shred_cols.specs.Row.{Version}
use Rattle.shred_cols.specs.Rows.{Rows, is_after}
use Rattle.col_keeper.specs.Asked.{meets_document}
use Rattle.col_keeper.specs.Tables.{Name, rows_in}
use Rattle.filter_tree.specs.Filters.{FilterTree}
use Rattle.filter_tree.specs.Matches.{matches}
use Rattle.store_core.specs.State.{State, Lives}
use Rattle.store_core.specs.Journal.{replay}
use Rattle.store_core.specs.declared.entry.Entry.{Entry}
use Rattle.cmd_tasks.specs.declared.trace.Item.{Item}
use Rattle.cmd_tasks.specs.declared.trace.Item.TheVariants.{Looked, Wrote, Lost, Faulted}

-- An item, the history before its point, and the entry that it wrote, if it did
pub record Sight : Type 0 where
  pub item : Item
  pub past : List Entry
  pub entry : Option Entry

abbrev pub point : Item → ℕ
point (Looked at after up_to shown) = at
point (Wrote at) = at
point (Lost at read found) = at
point (Faulted at before count) = at

abbrev pub writes : Item → Bool
writes (Looked at after up_to shown) = false
writes (Wrote at) = true
writes (Lost at read found) = false
writes (Faulted at before count) = true

abbrev pub entry_at : List Entry → Bool → ℕ → Option Entry
entry_at H false at = None
entry_at H true at = slice_get H at

-- what the item saw of the history H
abbrev pub sight : List Entry → Item → Sight
sight H i = record { item = i; past = take (point i) H; entry = entry_at H (writes i) (point i) }

-- the point stands in a history of n entries, and so does the entry that the item wrote
abbrev pub IsWithin : ℕ → Item → Type 0
IsWithin n (Looked at after up_to shown) = at ≤ n
IsWithin n (Wrote at) = at < n
IsWithin n (Lost at read found) = at ≤ n
IsWithin n (Faulted at before count) = at < n

-- a found document
pub record Found : Type 0 where
  pub id : Tree
  pub tx : ℕ
  pub doc : Tree

abbrev pub found : Tree × Version → Found
found e = record { id = e.0; tx = e.1.tx; doc = e.1.doc }

-- the id comes up to the given one, or to it
abbrev pub up_to : Option Tree → Tree → Bool
up_to None id = true
up_to (Some u) id = is_le (id_cmp id u)

-- the matching documents of an interval, in order of id
abbrev pub found_in : Rows → FilterTree → Option Tree → Option Tree → List Found
found_in r f a u = map found (filter (λ e. is_after a e.0 && (up_to u e.0 && matches f e.1.doc)) r)

-- the probe by which a listing walks: it narrows what a page shows
abbrev pub probe_of : FilterTree → Probe
probe_of f = All

-- how many documents of an interval meet the filter's probe
abbrev pub probed_in : Rows → FilterTree → Option Tree → Option Tree → ℕ
probed_in r f a u = length (filter (λ e. is_after a e.0 && (up_to u e.0 && meets_document (probe_of f) e.1.doc)) r)

abbrev pub end_of : Item → Option Tree
end_of (Looked at after up shown) = up
end_of (Wrote at) = None
end_of (Lost at read found) = None
end_of (Faulted at before count) = None

-- where the next look begins, after looks of which the newest stands first
abbrev pub next_from : Option Tree → List Sight → Option Tree
next_from from [] = from
next_from from (s ∷ earlier) = end_of s.item

module _ (base : State) (coll : Name) where
  -- the state that the sight is of
  abbrev pub now : Sight → State
  now s = replay base s.past

  -- the rows that it is of, none where the collection doesn't live
  abbrev pub rows_now : Sight → Rows
  rows_now s = elim (rows_in coll (now s).collections) as (λ _. Rows) [ None ↦ [] | Some r ↦ r ]

  module _ (f : FilterTree) where
    -- the item is a look that begins after `from`, at these rows
    abbrev pub Looks : Rows → Option Tree → Item → Type 0
    Looks r from (Looked at after up shown) = (after ≡ from) × (shown.items ≡ map (λ x. (x.id, x.tx)) (found_in r f after up))
    Looks r from (Wrote at) = ⊥
    Looks r from (Lost at read found) = ⊥
    Looks r from (Faulted at before count) = ⊥

    -- a look shows exactly the matching documents of its interval, as they stand at its point
    abbrev pub IsLook : Option Tree → Sight → Type 0
    IsLook from s = Lives coll (now s) × Looks (rows_now s) from s.item

    -- the documents that an item shows
    abbrev pub seen_by : Rows → Item → List Found
    seen_by r (Looked at after up shown) = found_in r f after up
    seen_by r (Wrote at) = []
    seen_by r (Lost at read found) = []
    seen_by r (Faulted at before count) = []

    abbrev pub shown_by : Sight → List Found
    shown_by s = seen_by (rows_now s) s.item

    -- the look's interval has a whole page of documents that meet the probe
    abbrev pub FullPage : Rows → Item → Type 0
    FullPage r (Looked at after up shown) = ((u : Tree) × (up ≡ Some u)) × (probed_in r f after up ≡ 64)
    FullPage r (Wrote at) = ⊥
    FullPage r (Lost at read found) = ⊥
    FullPage r (Faulted at before count) = ⊥

    -- Looks, the newest first.
    -- all that they show, in order
    abbrev pub shown : List Sight → List Found
    shown [] = []
    shown (s ∷ earlier) = shown earlier ++ shown_by s

    -- there is more to look at, and fewer than `most` are shown
    abbrev pub GoesOn : ℕ → List Sight → Type 0
    GoesOn most [] = ⊤
    GoesOn most (s ∷ earlier) = FullPage (rows_now s) s.item × (length (shown (s ∷ earlier)) < most)

    -- a listing from a start, as far as it has come: each look begins where the last one ended
    abbrev pub IsListing : Option Tree → ℕ → List Sight → Type 0
    IsListing from most [] = ⊤
    IsListing from most (s ∷ earlier) = IsListing from most earlier × GoesOn most earlier × IsLook (next_from from earlier) s

    -- it is done: nothing is left to look at, or `most` are shown
    abbrev pub IsListed : ℕ → List Sight → Type 0
    IsListed most [] = ⊥
    IsListed most (s ∷ earlier) = (end_of s.item ≡ None) ⊎ (most ≤ length (shown (s ∷ earlier)))
