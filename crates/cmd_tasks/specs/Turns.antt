-- What belongs to each turn of a command that takes many documents: its next sight, or its reply.
use Rattle.std.specs.Prelude.{◌≡◌, ◌⊎◌, ℕ, ◌+◌, ◌-◌, ◌^◌, List, map, reverse, min, nat_lt, Bool, true, false, Option, Some, None, Result, ⊤, IfSome, if◌then◌else◌}
use Rattle.std.specs.Option.{option_map}
use Rattle.json_tree.specs.Tree.{Tree}
use Rattle.shred_cols.specs.Row.{id_of}
use Rattle.col_keeper.specs.Tables.{Name}
use Rattle.update_ops.specs.declared.fault.UpdateFault.{UpdateFault}
use Rattle.filter_tree.specs.Filters.{FilterTree}
use Rattle.view_sort.specs.Page.{state_text}
use Rattle.view_sort.specs.declared.page.PageState.{PageState}
use Rattle.reply_env.specs.Messages as errors
use Rattle.reply_env.specs.Reply.{IsRefusal, IsRefusalAfter}
use Rattle.reply_env.specs.declared.reply.SoFar.{SoFar}
use Rattle.reply_env.specs.declared.reply.SoFar.TheVariants as so_far
use Rattle.reply_env.specs.declared.reply.Reply.{Reply}
use Rattle.reply_env.specs.declared.reply.Reply.TheVariants.{UpdatedMany, DeletedMany}
use Rattle.cmd_grammar.specs.Refused.{update_error}
use Rattle.store_core.specs.State.{State, Lives}
use Rattle.cmd_tasks.specs.Trace.{Sight, Found, now, rows_now, end_of, IsLook, FullPage}
use Rattle.cmd_tasks.specs.Attempts.{IsWon, IsLost}
use Rattle.cmd_tasks.specs.Part.{given_of}
use Rattle.cmd_tasks.specs.Doing.{Doing, makes, deletes, upsert_of}
use Rattle.cmd_tasks.specs.Taking.{Standing, shown_alone, Turn, looks_on, looks_again, attempts, inserts, is_done, is_put, is_taken, is_refused, gives_up}
use Rattle.cmd_tasks.specs.Insertions.{IsInsertion}
use Rattle.cmd_tasks.specs.declared.trace.Item.{Item}
use Rattle.cmd_tasks.specs.declared.trace.Item.TheVariants.{Looked, Wrote, Lost, Faulted}

-- there is something to be done
abbrev pub IsOn : Turn → Type 0
IsOn (looks_on from) = ⊤
IsOn (looks_again id) = ⊤
IsOn (attempts s change) = ⊤
IsOn (inserts d) = ⊤
IsOn (is_done more) = ⊥
IsOn (is_put d) = ⊥
IsOn (is_taken d tx) = ⊥
IsOn (is_refused fault) = ⊥
IsOn gives_up = ⊥

-- a write comes next
abbrev pub IsWrite : Turn → Type 0
IsWrite (looks_on from) = ⊥
IsWrite (looks_again id) = ⊥
IsWrite (attempts s change) = ⊤
IsWrite (inserts d) = ⊤
IsWrite (is_done more) = ⊥
IsWrite (is_put d) = ⊥
IsWrite (is_taken d tx) = ⊥
IsWrite (is_refused fault) = ⊥
IsWrite gives_up = ⊥

-- the interval of a look at a point where there is nothing to look at or to write
abbrev pub MarksTurn : Turn → Option Tree → Option Tree → Type 0
MarksTurn (looks_on from) after up = (after ≡ from) × (up ≡ None)
MarksTurn (looks_again id) after up = (after ≡ Some id) × (up ≡ Some id)
MarksTurn (attempts s change) after up = (after ≡ Some s.x.id) × (up ≡ Some s.x.id)
MarksTurn (inserts d) after up = (after ≡ Some (id_of d)) × (up ≡ Some (id_of d))
MarksTurn (is_done more) after up = ⊥
MarksTurn (is_put d) after up = ⊥
MarksTurn (is_taken d tx) after up = ⊥
MarksTurn (is_refused fault) after up = ⊥
MarksTurn gives_up after up = ⊥

-- the item is a look at this id alone that shows these
abbrev pub LooksAlone : Tree → List Found → Item → Type 0
LooksAlone id xs (Looked at after up shown) = (after ≡ Some id) × (up ≡ Some id) × (shown.items ≡ map (λ x. (x.id, x.tx)) xs)
LooksAlone id xs (Wrote at) = ⊥
LooksAlone id xs (Lost at read found) = ⊥
LooksAlone id xs (Faulted at before count) = ⊥

module _ (base : State) (coll : Name) (k : ℕ) (f : FilterTree) where
  -- a page of the listing, which is full unless it comes to the end
  abbrev pub IsPage : Option Tree → Sight → Type 0
  IsPage from s = IsLook base coll f from s × IfSome (end_of s.item) (λ u. FullPage base coll f (rows_now base coll s) s.item)

  -- a look at this id alone, which shows its document, if it matches
  abbrev pub IsAlone : Tree → Sight → Type 0
  IsAlone id s = Lives coll (now base coll s) × LooksAlone id (shown_alone base coll f id s) s.item

  -- the sight that comes next
  abbrev pub Follows : Turn → Sight → Type 0
  Follows (looks_on from) s = IsPage from s
  Follows (looks_again id) s = IsAlone id s
  Follows (attempts shown change) s = IsWon base coll k shown.x change s ⊎ IsLost base coll k shown.look shown.x s
  Follows (inserts d) s = IsInsertion base coll k d s
  Follows (is_done more) s = ⊥
  Follows (is_put d) s = ⊥
  Follows (is_taken d tx) s = ⊥
  Follows (is_refused fault) s = ⊥
  Follows gives_up s = ⊥

-- what a reply tells of accepted writes
abbrev pub counts_of : Doing → Standing → SoFar
counts_of (makes making up) st = so_far.Updated st.matched st.modified
counts_of deletes st = so_far.Deleted st.modified

-- it tells of them where there is one
abbrev pub so_far_of : Doing → Standing → Option SoFar
so_far_of doing st = if nat_lt 0 st.modified then Some (counts_of doing st) else None

-- the page state behind the last that was counted: how many all pages so far counted, and its id
abbrev pub state_behind : Option PageState → Standing → Bool → Option (List ℕ)
state_behind page st false = None
state_behind page st true = option_map (state_text (min (given_of page + st.matched) (2 ^ 63 - 1))) st.last

-- a document is inserted where none matches, unless a page state was given
abbrev pub upsert_for : FilterTree → Doing → Option PageState → Option (Result Tree UpdateFault)
upsert_for f doing None = upsert_of f doing
upsert_for f doing (Some page) = None

-- the reply where all is done
abbrev pub done_reply : Doing → Option PageState → Standing → Bool → Reply
done_reply (makes making up) page st more = UpdatedMany st.matched st.modified None (state_behind page st more)
done_reply deletes page st more = DeletedMany st.modified more

-- the reply that belongs to where the command ends
abbrev pub Ends : Doing → Option PageState → Standing → Turn → Reply → Type 0
Ends doing page st (looks_on from) reply = ⊥
Ends doing page st (looks_again id) reply = ⊥
Ends doing page st (attempts s change) reply = ⊥
Ends doing page st (inserts d) reply = ⊥
Ends doing page st (is_done more) reply = reply ≡ done_reply doing page st more
Ends doing page st (is_put d) reply = reply ≡ UpdatedMany 0 0 (Some (id_of d)) None
Ends doing page st (is_taken d tx) reply = IsRefusal (errors.already_exists (id_of d) tx) reply
Ends doing page st (is_refused fault) reply = IsRefusalAfter (so_far_of doing st) (update_error fault) reply
Ends doing page st gives_up reply = IsRefusalAfter (so_far_of doing st) (errors.lost_writes (reverse st.losses)) reply
