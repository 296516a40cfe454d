-- Requests that nobody disturbs: no write of theirs is lost to another session, and no call of the keeper fails under them.
use Rattle.std.specs.Prelude.{◌≢◌, ℕ, List, [], ⊤}
use Rattle.std.specs.List.{AllByRecursion as Each}
use Rattle.json_tree.specs.Tree.{Tree}
use Rattle.name_tables.specs.declared.code.Code.{Code}
use Rattle.name_tables.specs.declared.code.Code.TheVariants.{StoreFault, ConcurrencyFailure}
use Rattle.col_keeper.specs.Tables.{Name}
use Rattle.reply_env.specs.declared.reply.ErrorItem.{ErrorItem}
use Rattle.reply_env.specs.declared.reply.Reply.{Reply}
use Rattle.reply_env.specs.declared.reply.Reply.TheVariants.{Refused}
use Rattle.store_core.specs.State.{State}
use Rattle.store_core.specs.declared.entry.Entry.{Entry}
use Rattle.cmd_tasks.specs.Trace.{Sight}
use Rattle.cmd_tasks.specs.Insertions.{IsTaken}
use Rattle.cmd_tasks.specs.Served.{sights}
use Rattle.cmd_tasks.specs.Session.{Asking, asks_for, is_refused, is_unread, name_of, Exchange}
use Rattle.cmd_tasks.specs.declared.trace.Item.{Item}
use Rattle.cmd_tasks.specs.declared.trace.Item.TheVariants.{Looked, Wrote, Lost, Faulted}

-- this holds of each error of the reply
abbrev pub TellsOnly : (ErrorItem → Type 0) → Reply → Type 0
TellsOnly P (Refused errors so_far) = Each P errors.items
TellsOnly P reply = ⊤

-- no error of the reply has this code
abbrev pub IsFreeOf : Code → Reply → Type 0
IsFreeOf code reply = TellsOnly (λ e. e.code ≢ code) reply

-- the collection that the request is about
abbrev pub collection_of : Asking → Name
collection_of (asks_for coll c) = name_of coll
collection_of (is_refused error) = []
collection_of is_unread = []

-- ---- no write is lost

module _ (base : State) (coll : Name) (k : ℕ) where
  -- a write that wasn't accepted is the insertion of a document whose id was there
  abbrev pub IsUnlostAs : Item → Sight → Type 0
  IsUnlostAs (Looked at after up_to shown) s = ⊤
  IsUnlostAs (Wrote at) s = ⊤
  IsUnlostAs (Lost at read found) s = (d : Tree) × (tx : ℕ) × IsTaken base coll k d tx s
  IsUnlostAs (Faulted at before count) s = ⊤

  abbrev pub IsUnlost : Sight → Type 0
  IsUnlost s = IsUnlostAs s.item s

-- no write of the request was lost to another session, and its reply tells none
abbrev pub IsUncontested : State → List Entry → ℕ → Exchange → Type 0
IsUncontested base H k x = Each (IsUnlost base (collection_of x.asking) k) (sights H x.trace) × IsFreeOf ConcurrencyFailure x.reply

-- ---- no call fails

abbrev pub IsNoFailedCall : Item → Type 0
IsNoFailedCall (Looked at after up_to shown) = ⊤
IsNoFailedCall (Wrote at) = ⊤
IsNoFailedCall (Lost at read found) = ⊤
IsNoFailedCall (Faulted at before count) = ⊥

-- no call of the keeper failed under the request, and its reply tells none
abbrev pub IsUnfailed : Exchange → Type 0
IsUnfailed x = Each IsNoFailedCall x.trace × IsFreeOf StoreFault x.reply

-- ---- requests that are refused by themselves

-- the error tells neither
abbrev pub IsOwn : ErrorItem → Type 0
IsOwn error = (error.code ≢ StoreFault) × (error.code ≢ ConcurrencyFailure)

-- the request isn't refused by itself, or by such an error
abbrev pub BlamesItself : Asking → Type 0
BlamesItself (asks_for coll c) = ⊤
BlamesItself (is_refused error) = IsOwn error
BlamesItself is_unread = ⊤
