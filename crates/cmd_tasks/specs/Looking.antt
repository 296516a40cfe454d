-- One look of a listing, told or not: what a page of the store is to a request.
use Rattle.std.specs.Prelude.{◌≡◌, ◌⊎◌, ℕ, ◌<◌, ◌≤◌, List, [], ◌++◌, length, map, Bool, true, Option, Some, None, ⊤, IfSome}
use Rattle.std.specs.List.{filter, AllByRecursion}
use Rattle.outside_io.specs.Causes.{Rose}
use Rattle.json_tree.specs.Tree.{Tree}
use Rattle.shred_cols.specs.Row.{Version, id_of}
use Rattle.shred_cols.specs.Rows.{ascends}
use Rattle.col_keeper.specs.Tables.{Name, IsShort}
use Rattle.filter_tree.specs.Filters.{FilterTree}
use Rattle.filter_tree.specs.Matches.{matches}
use Rattle.reply_env.specs.Reply.{IsRefusal}
use Rattle.reply_env.specs.declared.reply.ErrorItem.{ErrorItem}
use Rattle.reply_env.specs.declared.reply.Reply.{Reply}
use Rattle.reply_env.specs.declared.reply.Reply.TheVariants.{NoMemory}
use Rattle.store_core.specs.State.{State as Base}
use Rattle.store_core.specs.Counts.{AllBy}
use Rattle.store_core.specs.declared.entry.Entry.{Entry}
use Rattle.cmd_tasks.specs.Rank.{rank_of}
use Rattle.cmd_tasks.specs.Trace.{Sight, sight, rows_now, shown_by, end_of, IsLook, FullPage}
use Rattle.cmd_tasks.specs.Served.{Stops}
use Rattle.cmd_tasks.specs.Session.{Records, AreCounted}
use Rattle.cmd_tasks.specs.Pages.{found_row, pair_of, up_of}
use Rattle.cmd_tasks.specs.declared.trace.Item.{Item}
use Rattle.cmd_tasks.specs.declared.trace.Item.TheVariants.{Looked, Wrote, Lost, Faulted}
use Rattle.cmd_tasks.specs.declared.work.Glance.{Glance}
use Rattle.cmd_tasks.specs.declared.work.Glance.TheVariants as g

-- a failed call is one in which the keeper's count rose
abbrev pub Risen : Item → Type 0
Risen (Looked at after up shown) = ⊤
Risen (Wrote at) = ⊤
Risen (Lost at read found) = ⊤
Risen (Faulted at before count) = Rose before count

-- one item at the journal's end, and the entry that it wrote, if it did, where the keeper's counts of faults are these before and after
pub record Made (k low high : ℕ) (H H' : List Entry) (i : Item) : Type 0 where
  pub more : List Entry
  pub longer : H' ≡ H ++ more
  pub records : Records k (length H) i more
  pub risen : Risen i
  pub alone : AllBy k more
  pub counted : AreCounted low high more

-- a look at this point, of this interval, that shows these
abbrev pub IsLooked : Item → ℕ → Option Tree → Option Tree → List (Tree × ℕ) → Type 0
IsLooked (Looked a from up page) at after up_to pairs = (a ≡ at) × (from ≡ after) × (up ≡ up_to) × (page.items ≡ pairs)
IsLooked (Wrote a) at after up_to pairs = ⊥
IsLooked (Lost a read found) at after up_to pairs = ⊥
IsLooked (Faulted a before count) at after up_to pairs = ⊥

-- a page's end lies behind its start
abbrev pub GoesUp : Option Tree → Option Tree → Type 0
GoesUp last up = IfSome up (λ u. rank_of (Some u) < rank_of last)

-- the page that was got at this point, as a look, unless memory was wanting
abbrev pub ShowsRows : FilterTree → ℕ → Option Tree → List Version → Bool → Glance → Type 0
ShowsRows f at after page end (g.Shown item rows up) =
    (rows.items ≡ filter (λ v. matches f v.doc) page) × (up ≡ up_of end page)
    × IsLooked item at after (up_of end page) (map pair_of (filter (λ v. matches f v.doc) page))
ShowsRows f at after page end (g.Ended item reply) = ⊥
ShowsRows f at after page end g.NoMemory = ⊤

abbrev pub Glances : ℕ → ℕ → ℕ → Option Tree → List Entry → List Entry → Glance → Type 0
Glances k low high last H H' (g.Shown item page up) = Made k low high H H' item × GoesUp last up × (H' ≡ H)
Glances k low high last H H' (g.Ended item reply) = Made k low high H H' item
Glances k low high last H H' g.NoMemory = H' ≡ H

-- the ids of rows have no more key bytes than a keeper takes
abbrev pub AreShort : List Version → Type 0
AreShort = AllByRecursion (λ v. IsShort (id_of v.doc))

abbrev pub ShowsShort : Glance → Type 0
ShowsShort (g.Shown item page up) = AreShort page.items
ShowsShort (g.Ended item reply) = ⊤
ShowsShort g.NoMemory = ⊤

-- a page shows no more rows than a page of the store has
abbrev pub ShowsFew : Glance → Type 0
ShowsFew (g.Shown item page up) = length page.items ≤ 64
ShowsFew (g.Ended item reply) = ⊤
ShowsFew g.NoMemory = ⊤

-- the reply refuses by this error, or memory was wanting
abbrev pub Refuses : ErrorItem → Reply → Type 0
Refuses error reply = IsRefusal error reply ⊎ (reply ≡ NoMemory 0)

-- nothing was there to look at, and the reply is such
abbrev pub ShowsNothing : ℕ → Option Tree → (Reply → Type 0) → Glance → Type 0
ShowsNothing at after P (g.Shown item rows up) = ⊥
ShowsNothing at after P (g.Ended item reply) = IsLooked item at after None [] × P reply
ShowsNothing at after P g.NoMemory = ⊥

-- there is this item in place of a look, and the reply is such
abbrev pub StopsWith : Item → (Reply → Type 0) → Glance → Type 0
StopsWith item P (g.Shown i rows up) = ⊥
StopsWith item P (g.Ended i reply) = (i ≡ item) × P reply
StopsWith item P g.NoMemory = ⊥

module _ (base : Base) (coll : Name) (k : ℕ) (H' : List Entry) where
  -- a listing stops at this item, where its next look was to begin at `last`
  abbrev pub StopsSo : Option Tree → Item → Reply → Type 0
  StopsSo last item reply = (error : ErrorItem) × Stops base coll k (λ after up. (after ≡ last) × (up ≡ None)) ⊥ item (sight H' item) error × Refuses error reply

  -- a page is a look of a listing, or the request stops there
  abbrev pub Sees : FilterTree → Option Tree → Glance → Type 0
  Sees f last (g.Shown item page up) = let s : Sight = sight H' item in
      IsLook base coll f last s × (shown_by base coll f s ≡ map found_row page.items) × (end_of item ≡ up)
      × IfSome up (λ u. FullPage base coll f (rows_now base coll s) item) × (ascends (rows_now base coll s) ≡ true)
  Sees f last (g.Ended item reply) = StopsSo last item reply
  Sees f last g.NoMemory = ⊤
