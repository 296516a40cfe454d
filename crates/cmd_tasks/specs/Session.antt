-- A session: the requests of one connection, served in order on one history, whatever others write there.
use Rattle.std.specs.Prelude.{◌≡◌, ℕ, ℤ, ◌+◌, ◌≤◌, ◌⊎◌, List, [], ◌∷◌, length, Bool, false, ◌==◌, cond, Option, None, Some, ⊤, slice_get}
use Rattle.std.specs.List.{flat_map}
use Rattle.json_tree.specs.Tree.{Tree}
use Rattle.col_keeper.specs.Tables.{Name}
use Rattle.store_core.specs.State.{State}
use Rattle.store_core.specs.Journal.{IsJournal}
use Rattle.cmd_tasks.specs.Trace.{point, writes, IsWithin}
use Rattle.cmd_tasks.specs.Jobs.{draws}
use Rattle.cmd_tasks.specs.Served.{IsServed}
use Rattle.cmd_grammar.specs.Commands.{CommandTree}
use Rattle.reply_env.specs.Reply.{IsRefusal}
use Rattle.reply_env.specs.declared.reply.ErrorItem.{ErrorItem}
use Rattle.reply_env.specs.declared.reply.Reply.{Reply}
use Rattle.reply_env.specs.declared.reply.Reply.TheVariants.{NoMemory}
use Rattle.store_core.specs.declared.entry.Entry.{Entry}
use Rattle.store_core.specs.declared.entry.Entry.TheVariants.{Opened, Created, Dropped, Changed, Failed}
use Rattle.cmd_tasks.specs.declared.trace.Item.{Item}

-- What a request asks: a command, on a collection if it is of one, or an error by the request alone, or nothing that was read,
-- since memory ran out
pub data Asking : Type 0 where
  asks_for : Option Name → CommandTree → Asking
  is_refused : ErrorItem → Asking
  is_unread : Asking

-- A request as it was answered, and the ids that were drawn for it
pub record Exchange : Type 0 where
  pub asking : Asking
  pub moment : ℤ
  pub ids : List Tree
  pub trace : List Item
  pub reply : Reply

-- no collection has the empty name
abbrev pub name_of : Option Name → Name
name_of None = []
name_of (Some coll) = coll

-- how many ids are drawn for a request
abbrev pub draws_of : Asking → ℕ
draws_of (asks_for coll c) = draws c
draws_of (is_refused error) = 0
draws_of is_unread = 0

-- Points don't fall, and after an item that wrote the next point lies behind its entry
abbrev pub behind : Item → ℕ
behind i = cond (writes i) (point i + 1) (point i)

abbrev pub AreOrdered : ℕ → List Item → Type 0
AreOrdered n [] = ⊤
AreOrdered n (i ∷ is) = (n ≤ point i) × AreOrdered (behind i) is

-- every item's point stands in a history of n entries
abbrev pub AreWithin : ℕ → List Item → Type 0
AreWithin n [] = ⊤
AreWithin n (i ∷ is) = IsWithin n i × AreWithin n is

-- the entry is a write or a failed call by the session
abbrev pub is_work : ℕ → Entry → Bool
is_work k (Opened j) = false
is_work k (Created by coll) = by == k
is_work k (Dropped by coll) = by == k
is_work k (Changed by coll id change before tx) = by == k
is_work k (Failed by before count) = by == k

-- no entry is the session's work
abbrev pub NoWork : ℕ → List Entry → Type 0
NoWork k [] = ⊤
NoWork k (e ∷ es) = (is_work k e ≡ false) × NoWork k es

-- where the entries by the session stand, counted from n
abbrev pub places : ℕ → ℕ → List Entry → List ℕ
places k n [] = []
places k n (e ∷ es) = cond (is_work k e) (n ∷ places k (n + 1) es) (places k (n + 1) es)

-- the points of the items that wrote
abbrev pub written : List Item → List ℕ
written [] = []
written (i ∷ is) = cond (writes i) (point i ∷ written is) (written is)

-- the reply and what it rests on belong to the request
abbrev pub Answered : State → List Entry → ℕ → ℤ → List Tree → Asking → List Item → Reply → Type 0
Answered base H k moment ids (asks_for coll c) trace reply = IsServed base H (name_of coll) k moment ids c trace reply
Answered base H k moment ids (is_refused error) trace reply = (trace ≡ []) × (IsRefusal error reply ⊎ (reply ≡ NoMemory 0))
Answered base H k moment ids is_unread trace reply = (trace ≡ []) × (reply ≡ NoMemory 0)

abbrev pub IsAnswered : State → List Entry → ℕ → Exchange → Type 0
IsAnswered base H k x = Answered base H k x.moment x.ids x.asking x.trace x.reply

-- each exchange is answered
abbrev pub AreAnswered : State → List Entry → ℕ → List Exchange → Type 0
AreAnswered base H k [] = ⊤
AreAnswered base H k (x ∷ xs) = IsAnswered base H k x × AreAnswered base H k xs

abbrev pub items : List Exchange → List Item
items xs = flat_map (λ x. x.trace) xs

-- The session k made these exchanges on the history H, which begins at base
pub record IsSession (base : State) (H : List Entry) (k : ℕ) (exchanges : List Exchange) : Type 0 where
  pub journal : IsJournal base H
  pub answered : AreAnswered base H k exchanges
  pub opened : ℕ
  pub opens : slice_get H opened ≡ Some (Opened k)
  pub ordered : AreOrdered (opened + 1) (items exchanges)
  pub within : AreWithin (length H) (items exchanges)
  pub own : places k 0 H ≡ written (items exchanges)

-- a step of the session k at the point n: an item of this point, and the entries that it added, if it wrote
pub record Records (k n : ℕ) (i : Item) (more : List Entry) : Type 0 where
  pub here : point i ≡ n
  pub stands : IsWithin (n + length more) i
  pub own : places k n more ≡ cond (writes i) (point i ∷ []) []

-- all sessions at once, numbered from k: the exchanges of each
abbrev pub AreSessions : State → List Entry → ℕ → List (List Exchange) → Type 0
AreSessions base H k [] = ⊤
AreSessions base H k (xs ∷ rest) = IsSession base H k xs × AreSessions base H (k + 1) rest

-- the counts of failed calls lie between these
abbrev pub AreCounted : ℕ → ℕ → List Entry → Type 0
AreCounted low high [] = ⊤
AreCounted low high (Opened j ∷ es) = AreCounted low high es
AreCounted low high (Created by coll ∷ es) = AreCounted low high es
AreCounted low high (Dropped by coll ∷ es) = AreCounted low high es
AreCounted low high (Changed by coll id change before tx ∷ es) = AreCounted low high es
AreCounted low high (Failed by before count ∷ es) = (low ≤ before) × (count ≤ high) × AreCounted low high es
