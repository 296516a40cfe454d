-- What the steps of a command that takes many documents make of a page, an attempt and a look at one alone, told or not.
use Rattle.std.specs.Prelude.{◌≡◌, ◌⊎◌, ℕ, ◌<◌, ◌≤◌, List, [], ◌∷◌, ◌++◌, length, reverse, is_none, false, Option, Some, None, if◌then◌else◌}
use Rattle.std.proofs.Common.{Vec, Global}
use Rattle.json_tree.specs.Tree.{Tree}
use Rattle.shred_cols.specs.Row.{Version}
use Rattle.filter_tree.specs.Filters.{FilterTree}
use Rattle.filter_tree.specs.Matches.{matches}
use Rattle.filter_tree.specs.View.{filter_tree}
use Rattle.reply_env.specs.Messages as errors
use Rattle.reply_env.specs.declared.reply.ErrorItem.{ErrorItem}
use Rattle.reply_env.specs.declared.reply.Reply.{Reply}
use Rattle.reply_env.specs.declared.reply.Reply.TheVariants.{NoMemory}
use Rattle.reply_env.specs.declared.update_errors.Loss.{Loss}
use Rattle.cmd_tasks.specs.Taking.{Standing, settle}
use Rattle.cmd_tasks.specs.Pages.{pair_of}
use Rattle.cmd_tasks.specs.Looking.{IsLooked, Refuses}
use Rattle.cmd_tasks.specs.Many.{doing_of, IsStanding}
use Rattle.cmd_tasks.specs.Going.{GoesOnFrom, GoesReady, RefusesAfter}
use Rattle.cmd_tasks.specs.declared.trace.Item.{Item}
use Rattle.cmd_tasks.specs.declared.trace.Item.TheVariants.{Lost}
use Rattle.cmd_tasks.specs.declared.work.Doing.{Doing}
use Rattle.cmd_tasks.specs.declared.work.Many.{Many}
use Rattle.cmd_tasks.specs.declared.work.Stand.{Stand}
use Rattle.cmd_tasks.specs.declared.work.State.TheVariants.{Retrying}
use Rattle.cmd_tasks.specs.declared.work.Moved.{Moved}
use Rattle.cmd_tasks.specs.declared.work.Moved.TheVariants as m

-- ---- a page

-- the same, with a page of which nothing is taken, behind which the next one begins
pub record HasPage (stand : Stand) (rows : List Version) (last : Option Tree) (new : Stand) : Type 0 where
  pub from_is : new.from ≡ last
  pub whole_is : new.is_whole ≡ is_none last
  pub queue_is : new.queue.items ≡ reverse rows
  pub lost_is : new.lost.items ≡ stand.lost.items
  pub matched_is : new.matched ≡ stand.matched
  pub modified_is : new.modified ≡ stand.modified
  pub last_is : new.last ≡ stand.last

-- ---- errors

-- the reply tells the error, and what was written before, wherever as many were counted and changed as here
abbrev pub TellsAfter : Doing → Stand → ErrorItem → Reply → Type 0
TellsAfter doing stand error reply = (st : Standing) → stand.matched ≡ st.matched → stand.modified ≡ st.modified → RefusesAfter (doing_of doing) st error reply

-- where the one step ends, the other ends with the same item, and tells what was written before
abbrev pub EndsAfter : Doing → Stand → Moved → Moved → Type 0
EndsAfter doing stand (m.Goes i w) o = o ≡ m.Goes i w
EndsAfter doing stand (m.Ends i reply) (m.Goes j w) = ⊥
EndsAfter doing stand (m.Ends i reply) (m.Ends j told) = (j ≡ i) × ((error : ErrorItem) → Refuses error reply → TellsAfter doing stand error told)
EndsAfter doing stand (m.Ends i reply) m.NoMemory = ⊥
EndsAfter doing stand m.NoMemory o = o ≡ m.NoMemory

-- ---- a lost attempt

-- the attempts on the document that were lost, with this one
abbrev pub lost_with : Stand → Loss → List Loss
lost_with stand loss = stand.lost.items ++ loss ∷ []

-- its document is looked at again, or four were lost
abbrev pub LosesOne : ℕ → Many → Stand → Tree → Loss → Moved → Type 0
LosesOne at many stand id loss (m.Goes i w) = (more : Vec Loss Global) × (more.items ≡ lost_with stand loss) × (length more.items < 4) × (i ≡ Lost at loss.read loss.found) × (w ≡ Retrying many (record stand { lost = more }) id)
LosesOne at many stand id loss (m.Ends i reply) = (i ≡ Lost at loss.read loss.found) × (((4 ≤ length (lost_with stand loss)) × TellsAfter many.doing stand (errors.lost_writes (lost_with stand loss)) reply) ⊎ (reply ≡ NoMemory stand.modified))
LosesOne at many stand id loss m.NoMemory = ⊥

-- ---- a look at one alone

-- the row, if its document matches
abbrev pub matching_row : FilterTree → Option Version → Option Version
matching_row f None = None
matching_row f (Some v) = if matches f v.doc then Some v else None

abbrev pub pairs_of : Option Version → List (Tree × ℕ)
pairs_of None = []
pairs_of (Some v) = pair_of v ∷ []

abbrev pub rows_with : List Version → Option Version → List Version
rows_with rows None = rows
rows_with rows (Some v) = rows ++ v ∷ []

-- a document that is passed over takes the losses with it
abbrev pub losses_with : List Loss → Option Version → List Loss
losses_with losses None = []
losses_with losses (Some v) = losses

-- the same, with the row that is first again, or passed over
pub record HasFirst (stand : Stand) (row : Option Version) (new : Stand) : Type 0 where
  pub from_is : new.from ≡ stand.from
  pub whole_is : new.is_whole ≡ stand.is_whole
  pub queue_is : new.queue.items ≡ rows_with stand.queue.items row
  pub lost_is : new.lost.items ≡ losses_with stand.lost.items row
  pub matched_is : new.matched ≡ stand.matched
  pub modified_is : new.modified ≡ stand.modified
  pub last_is : new.last ≡ stand.last

-- it goes on with the row if that matches, or memory was wanting
pub record Retakes (at : ℕ) (after up : Tree) (many : Many) (stand : Stand) (row : Option Version) (o : Moved) : Type 0 where
  pub item : Item
  pub looks : IsLooked item at (Some after) (Some up) (pairs_of (matching_row (filter_tree many.wanted.filter) row))
  pub new : Stand
  pub has : HasFirst stand (matching_row (filter_tree many.wanted.filter) row) new
  pub ready : GoesReady many item new o
  pub goes : (st : Standing) → IsStanding new st st.queue → st.again ≡ false → GoesOnFrom many item (settle (doing_of many.doing) st) o
