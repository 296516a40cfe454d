-- How a command that takes many documents goes on behind an item, as far as nothing is asked of the store.
use Rattle.std.specs.Prelude.{◌≡◌, ◌⊎◌, ℕ, ◌+◌, ◌*◌, ◌<◌, ◌≤◌, List, [], ◌∷◌, length, false, Option, Some, None, ⊤, Result, Ok, Err}
use Rattle.json_tree.specs.Tree.{Tree}
use Rattle.shred_cols.specs.Row.{Version, id_of}
use Rattle.reply_env.specs.Reply.{IsRefusalAfter}
use Rattle.reply_env.specs.declared.reply.ErrorItem.{ErrorItem}
use Rattle.reply_env.specs.declared.reply.Reply.{Reply}
use Rattle.reply_env.specs.declared.reply.Reply.TheVariants.{UpdatedMany, NoMemory}
use Rattle.update_ops.specs.declared.fault.UpdateFault.{UpdateFault}
use Rattle.update_ops.specs.declared.fault.UpdateFault.TheVariants as faults
use Rattle.cmd_tasks.specs.Doing.{Doing, change_of}
use Rattle.cmd_tasks.specs.Taking.{Shown, Standing, not_put, inserts, is_refused, turn}
use Rattle.cmd_tasks.specs.Turns.{so_far_of, Ends}
use Rattle.cmd_tasks.specs.Many.{doing_of, taking, put_for, IsStand, IsReadyTo, pages_left, stand_left, tries_left, IsStanding, IsAttempted}
use Rattle.cmd_tasks.specs.Moves.{asked, IsReady, left}
use Rattle.cmd_tasks.specs.declared.work.Many as declared_many
use Rattle.cmd_tasks.specs.declared.work.Stand.{Stand}
use Rattle.cmd_tasks.specs.declared.work.State.{State}
use Rattle.cmd_tasks.specs.declared.work.State.TheVariants.{Paging, Trying, PuttingMany}
use Rattle.cmd_tasks.specs.declared.work.Moved.{Moved}
use Rattle.cmd_tasks.specs.declared.work.Moved.TheVariants as m
use Rattle.cmd_tasks.specs.declared.meeting.Met.{Met}
use Rattle.cmd_tasks.specs.declared.meeting.Met.TheVariants as met
use Rattle.cmd_tasks.specs.declared.taking.Settled.{Settled}
use Rattle.cmd_tasks.specs.declared.taking.Settled.TheVariants as settled
use Rattle.cmd_tasks.specs.declared.trace.Item.{Item}

-- one document more is counted, of which so many were changed
pub record IsCounted (stand : Stand) (id : Tree) (changed : ℕ) (new : Stand) : Type 0 where
  pub from : new.from ≡ stand.from
  pub is_whole : new.is_whole ≡ stand.is_whole
  pub queue : new.queue.items ≡ stand.queue.items
  pub lost : new.lost.items ≡ []
  pub matched : new.matched ≡ stand.matched + 1
  pub modified : new.modified ≡ stand.modified + changed
  pub last : new.last ≡ Some id

-- what is counted, without what waits
abbrev pub tally : Stand → Standing
tally stand = record { from = stand.from; is_whole = stand.is_whole; queue = []; again = false; losses = []; matched = stand.matched; modified = stand.modified; last = stand.last; put = not_put }

-- what a row's document asks for: nothing, since the change would leave it as it is, or an attempt, or its change is refused or memory was wanting
abbrev pub Meets : Doing → Version → Met → Type 0
Meets doing v (met.Unchanged id) = (id ≡ id_of v.doc) × (change_of doing v.doc ≡ Ok None)
Meets doing v (met.Changed attempt) = (attempt.id ≡ id_of v.doc) × (attempt.read ≡ v.tx) × (change_of doing v.doc ≡ Ok (Some attempt.change)) × IsReadyTo attempt
Meets doing v (met.Refused fault) = (fault ≡ faults.NoMemory) ⊎ (change_of doing v.doc ≡ Err fault)

-- the change of the first one is refused
pub record IsRefused (doing : Doing) (stand : Stand) (fault : UpdateFault) (st : Standing) : Type 0 where
  pub first : Shown
  pub rest : List Shown
  pub queue : st.queue ≡ first ∷ rest
  pub first_time : st.again ≡ false
  pub few : st.matched < 20
  pub refused : change_of doing first.x.doc ≡ Err fault
  pub stands : IsStanding stand st rest

-- what is taken next, of a settled standing
abbrev pub Settles : Doing → Standing → Settled → Type 0
Settles doing st (settled.Taken stand attempt) = (st.matched < 20) × IsAttempted doing stand attempt st
Settles doing st (settled.Untaken stand) = IsStanding stand st st.queue × (st.again ≡ false) × ((st.queue ≡ []) ⊎ (20 ≤ st.matched))
Settles doing st (settled.Refused stand fault) = ((fault ≡ faults.NoMemory) × (stand.modified ≡ st.modified)) ⊎ IsRefused doing stand fault st

-- ---- where all is listed, and none was counted

-- the document that is inserted then is made, or none is to be; or it is refused, or memory was wanting
abbrev pub MakesPut : Option (Result Tree UpdateFault) → Result (Option Tree) UpdateFault → Type 0
MakesPut up (Ok None) = up ≡ None
MakesPut up (Ok (Some d)) = up ≡ Some (Ok d)
MakesPut up (Err fault) = (fault ≡ faults.NoMemory) ⊎ (up ≡ Some (Err fault))

-- the change of the document that was to be taken is refused, or the document that was to be inserted is, or memory was wanting
abbrev pub TurnsDown : declared_many.Many → Stand → UpdateFault → Standing → Type 0
TurnsDown many stand fault st =
    ((fault ≡ faults.NoMemory) × (stand.modified ≡ st.modified))
    ⊎ ((turn (put_for many) (doing_of many.doing) st ≡ is_refused fault) × (stand.matched ≡ st.matched) × (stand.modified ≡ st.modified))

-- ---- what is left of a command where nothing is taken yet: the first one may have been attempted before

abbrev pub waiting_left : List Version → ℕ → ℕ
waiting_left [] tries = 0
waiting_left (v ∷ rest) tries = length rest * 8 + tries

abbrev pub unsettled_left : Stand → ℕ
unsettled_left stand = pages_left stand.is_whole stand.from + waiting_left stand.queue.items (tries_left stand)

-- what is kept by itself of what is taken next, and that no more is left
abbrev pub SettlesReady : Stand → Settled → Type 0
SettlesReady begun (settled.Taken stand attempt) = IsStand stand × (stand.matched < 20) × IsReadyTo attempt × (length stand.queue.items < 64) × (stand_left stand + tries_left stand ≤ unsettled_left begun)
SettlesReady begun (settled.Untaken stand) = IsStand stand × (unsettled_left stand ≤ unsettled_left begun)
SettlesReady begun (settled.Refused stand fault) = ⊤

-- ---- how it goes on

-- the next state of this standing
abbrev pub IsStateAt : declared_many.Many → Standing → State → Type 0
IsStateAt many st (Paging m stand) = (m ≡ many) × (st.queue ≡ []) × (st.is_whole ≡ false) × IsStanding stand st []
IsStateAt many st (Trying m stand attempt) = (m ≡ many) × (st.matched < 20) × IsAttempted (doing_of many.doing) stand attempt st
IsStateAt many st (PuttingMany m stand doc reply) =
    (m ≡ many) × (turn (put_for many) (doing_of many.doing) st ≡ inserts doc) × (reply ≡ UpdatedMany 0 0 (Some (id_of doc)) None) × (stand.modified ≡ 0) × (st.modified ≡ 0)
IsStateAt many st w = ⊥

-- it goes on from this standing, or its reply is told, unless memory was wanting for that
abbrev pub GoesOnFrom : declared_many.Many → Item → Standing → Moved → Type 0
GoesOnFrom many item st (m.Goes i w) = (i ≡ item) × IsStateAt many st w
GoesOnFrom many item st (m.Ends i reply) = (i ≡ item) × (Ends (doing_of many.doing) many.page.value st (turn (put_for many) (doing_of many.doing) st) reply ⊎ (reply ≡ NoMemory st.modified))
GoesOnFrom many item st m.NoMemory = ⊥

-- told or not: behind the item the command goes on with a state that is ready, of which no more is left
abbrev pub GoesReady : declared_many.Many → Item → Stand → Moved → Type 0
GoesReady many item stand (m.Goes i w) = (i ≡ item) × (asked w ≡ Some (taking many)) × IsReady w × (left w ≤ unsettled_left stand)
GoesReady many item stand (m.Ends i reply) = i ≡ item
GoesReady many item stand m.NoMemory = ⊥

-- the reply refuses by this error and tells what was written before, or memory was wanting for that
abbrev pub RefusesAfter : Doing → Standing → ErrorItem → Reply → Type 0
RefusesAfter doing st error reply = IsRefusalAfter (so_far_of doing st) error reply ⊎ (reply ≡ NoMemory st.modified)
