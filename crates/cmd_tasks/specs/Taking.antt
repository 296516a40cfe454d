-- Where a command stands that takes many documents: what it listed, took and counted so far.
use Rattle.std.specs.Prelude.{ℕ, ◌+◌, List, [], ◌∷◌, ◌++◌, map, length, Bool, true, false, ◌&&◌, nat_lt, is_none, Option, Some, None, Result, Ok, Err, if◌then◌else◌}
use Rattle.json_tree.specs.Tree.{Tree}
use Rattle.shred_cols.specs.Row.{Version}
use Rattle.col_keeper.specs.Tables.{Name}
use Rattle.filter_tree.specs.Filters.{FilterTree}
use Rattle.filter_tree.specs.Matches.{matches}
use Rattle.update_ops.specs.declared.fault.UpdateFault.{UpdateFault}
use Rattle.reply_env.specs.declared.update_errors.Loss.{Loss}
use Rattle.store_core.specs.State.{State, version}
use Rattle.store_core.specs.declared.entry.Change.{Change}
use Rattle.cmd_tasks.specs.Trace.{Sight, Found, now, shown_by, end_of}
use Rattle.cmd_tasks.specs.Doing.{Doing, change_of}
use Rattle.cmd_tasks.specs.declared.trace.Item.{Item}
use Rattle.cmd_tasks.specs.declared.trace.Item.TheVariants.{Looked, Wrote, Lost, Faulted}

-- a found document, and the look that showed it
pub record Shown : Type 0 where
  pub x : Found
  pub look : Sight

-- what became of the document that is inserted where none matches: nothing yet, or it was accepted, or a document with
-- this number has its id
pub data Put : Type 0 where
  not_put : Put
  was_put : Put
  was_taken : Option ℕ → Put

pub record Standing : Type 0 where
  -- where the next page of the listing begins, unless the listing is whole
  pub from : Option Tree
  pub is_whole : Bool
  -- what was shown and isn't taken yet, in order
  pub queue : List Shown
  -- an attempt on the first of them was lost: it is looked at alone
  pub again : Bool
  -- the lost attempts on the first of them, the newest first
  pub losses : List Loss
  -- how many documents were counted, how many of these were changed, and the id of the last
  pub matched : ℕ
  pub modified : ℕ
  pub last : Option Tree
  pub put : Put

-- nothing was looked at
abbrev pub at_start : Option Tree → Standing
at_start from = record { from = from; is_whole = false; queue = []; again = false; losses = []; matched = 0; modified = 0; last = None; put = not_put }

-- one document is counted, of which so many were changed, and these are left
abbrev pub count : Found → ℕ → List Shown → Standing → Standing
count x changed rest st = record st { queue = rest; losses = []; matched = st.matched + 1; modified = st.modified + changed; last = Some x.id }

-- nothing is to be written for it
abbrev pub is_unchanged : Result (Option Change) UpdateFault → Bool
is_unchanged (Ok change) = is_none change
is_unchanged (Err fault) = false

-- unchanged documents are counted without a write, as long as fewer than 20 are counted
abbrev pub settled : Doing → List Shown → Standing → Standing
settled doing [] st = record st { queue = [] }
settled doing (s ∷ rest) st = if nat_lt st.matched 20 && is_unchanged (change_of doing s.x.doc) then settled doing rest (count s.x 0 rest st) else record st { queue = s ∷ rest }

abbrev pub settle : Doing → Standing → Standing
settle doing st = settled doing st.queue st

-- the document of an id, if it matches
abbrev pub matching : FilterTree → Tree → Option Version → List Found
matching f id None = []
matching f id (Some v) = if matches f v.doc then record { id = id; tx = v.tx; doc = v.doc } ∷ [] else []

abbrev pub shown_with : Sight → List Found → List Shown
shown_with look xs = map (λ x. record { x = x; look = look }) xs

-- the first of the queue's is counted, and changed; where none is left, a document was inserted
abbrev pub win : List Shown → Standing → Standing
win [] st = record st { put = was_put }
win (s ∷ rest) st = record (count s.x 1 rest st) { again = false }

-- the first of the queue's is to be looked at again; where none is left, the id of the document that was to be inserted is taken
abbrev pub lose : Loss → List Shown → Standing → Standing
lose loss [] st = record st { put = was_taken loss.found }
lose loss (s ∷ rest) st = record st { again = true; losses = loss ∷ st.losses }

module _ (base : State) (coll : Name) (f : FilterTree) where
  -- a look at an id alone shows its document, if it matches
  abbrev pub shown_alone : Tree → Sight → List Found
  shown_alone id s = matching f id (version (now base coll s) coll id)

  -- the next page: what it shows is to be taken
  abbrev pub list_on : Sight → Standing → Standing
  list_on s st = record st { from = end_of s.item; is_whole = is_none (end_of s.item); queue = st.queue ++ shown_with s (shown_by base coll f s) }

  -- what a look at the first one alone shows stands in its place; where it shows nothing, it is passed over
  abbrev pub replace : Sight → List Found → List Shown → Standing → Standing
  replace s [] rest st = record st { queue = rest; again = false; losses = [] }
  replace s (x ∷ xs) rest st = record st { queue = record { x = x; look = s } ∷ rest; again = false }

  abbrev pub look_again : Sight → List Shown → Standing → Standing
  look_again s [] st = st
  look_again s (first ∷ rest) st = replace s (shown_alone first.x.id s) rest st

  abbrev pub with_look : Bool → Sight → Standing → Standing
  with_look false s st = list_on s st
  with_look true s st = look_again s st.queue st

  module _ (doing : Doing) where
    abbrev pub with_item : Item → Sight → Standing → Standing
    with_item (Looked at after up shown) s st = settle doing (with_look st.again s st)
    with_item (Wrote at) s st = settle doing (win st.queue st)
    with_item (Lost at read found) s st = lose (record { read = read; found = found }) st.queue st
    with_item (Faulted at before count) s st = st

    -- after these sights, of which the newest stands first
    abbrev pub standing : Option Tree → List Sight → Standing
    standing from [] = at_start from
    standing from (s ∷ earlier) = with_item s.item s (standing from earlier)

-- What comes next
pub data Turn : Type 0 where
  -- a page of the listing, which begins there
  looks_on : Option Tree → Turn
  -- a look at this id alone
  looks_again : Tree → Turn
  -- an attempt to make this change of a document, as a look showed it
  attempts : Shown → Change → Turn
  -- the insertion of this document, since none matched
  inserts : Tree → Turn
  -- nothing: it is done, and more match or don't
  is_done : Bool → Turn
  -- nothing: this document was inserted
  is_put : Tree → Turn
  -- nothing: the id of this document that was to be inserted is taken, by one with this number
  is_taken : Tree → ℕ → Turn
  -- nothing: the change is refused on the document that was to be taken, or the one that was to be inserted is refused
  is_refused : UpdateFault → Turn
  -- nothing: four attempts on one document were lost
  gives_up : Turn

-- the first one is taken (one that is unchanged doesn't stand first)
abbrev pub take_with : Shown → Result (Option Change) UpdateFault → Turn
take_with s (Ok (Some change)) = attempts s change
take_with s (Ok None) = is_done true
take_with s (Err fault) = is_refused fault

-- all was listed and none was counted: a document is inserted, if one is to be
abbrev pub turn_put : Put → Option (Result Tree UpdateFault) → Turn
turn_put not_put None = is_done false
turn_put not_put (Some (Ok new)) = inserts new
turn_put not_put (Some (Err fault)) = is_refused fault
turn_put was_put (Some (Ok new)) = is_put new
turn_put (was_taken (Some tx)) (Some (Ok new)) = is_taken new tx
turn_put put up = is_done false

abbrev pub turn_again : List Shown → Standing → Turn
turn_again [] st = gives_up
turn_again (s ∷ rest) st = if nat_lt (length st.losses) 4 then looks_again s.x.id else gives_up

-- where this document is inserted if none matches, or none is
module _ (up : Option (Result Tree UpdateFault)) where
  -- all was listed
  abbrev pub turn_whole : Standing → Turn
  turn_whole st = if nat_lt 0 st.matched then is_done false else turn_put st.put up

  abbrev pub turn_on : Doing → List Shown → Standing → Turn
  turn_on doing [] st = if st.is_whole then turn_whole st else looks_on st.from
  turn_on doing (s ∷ rest) st = if nat_lt st.matched 20 then take_with s (change_of doing s.x.doc) else is_done true

  abbrev pub turn_of : Bool → Doing → Standing → Turn
  turn_of true doing st = turn_again st.queue st
  turn_of false doing st = turn_on doing st.queue st

  abbrev pub turn : Doing → Standing → Turn
  turn doing st = turn_of st.again doing st
