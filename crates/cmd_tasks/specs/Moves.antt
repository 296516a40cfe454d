-- What a step of the work is, told or not; and how it goes on with a request that is under way.
use Rattle.std.specs.Prelude.{◌≡◌, ◌⊎◌, ℕ, zero, suc, ◌+◌, ◌-◌, ◌<◌, ◌≤◌, List, [], ◌∷◌, ◌++◌, length, map, take, reverse, false, Option, Some, None, Ok, ⊤, IfSome, nat_le, if◌then◌else◌}
use Rattle.std.proofs.Common.{Vec, Global}
use Rattle.std.specs.List.{AllByRecursion}
use Rattle.std.specs.Option.{ForSome, option_map}
use Rattle.json_tree.specs.Tree.{Tree}
use Rattle.json_tree.specs.View.{tree}
use Rattle.json_tree.specs.declared.value.Value.{Value}
use Rattle.shred_cols.specs.Row.{Version, id_of}
use Rattle.col_keeper.specs.Tables.{Name, KeepsLimits, IsShort}
use Rattle.filter_tree.specs.View.{filter_tree}
use Rattle.reply_env.specs.declared.reply.Reply.{Reply}
use Rattle.reply_env.specs.declared.reply.Reply.TheVariants.{UpdatedMany, NoMemory}
use Rattle.view_sort.specs.Sort.{SortKeys}
use Rattle.view_sort.specs.View.{view}
use Rattle.store_core.specs.State.{State as Base, version}
use Rattle.store_core.specs.Journal.{IsMadeOfRead}
use Rattle.store_core.specs.declared.entry.Entry.{Entry}
use Rattle.cmd_grammar.specs.Commands.{CommandTree, command_tree, Paging as PageOf, IsStorable, IsAskablePaging, IsAskable}
use Rattle.cmd_tasks.specs.Rank.{rank_of}
use Rattle.cmd_tasks.specs.Trace.{Sight, sight, Found, shown, GoesOn, next_from}
use Rattle.cmd_tasks.specs.Searches.{bound}
use Rattle.cmd_tasks.specs.Doing.{change_of}
use Rattle.cmd_tasks.specs.Jobs.{Job, inserts, finds_one, finds, counts, changes_one, creates, drops, names, draws, job_of}
use Rattle.cmd_tasks.specs.Ids.{drawn, stream_of_ids}
use Rattle.cmd_tasks.specs.Insertions.{inserted, doubles}
use Rattle.cmd_tasks.specs.Outcomes.{changed, put, Tells}
use Rattle.cmd_tasks.specs.Served.{IsPartOf, IsOpen, Serves, TellsFound, TellsListed, counted, sights, chosen, insertion, round, losses, many_standing}
use Rattle.cmd_tasks.specs.Placed.{IsPlaced}
use Rattle.cmd_tasks.specs.Pages.{found_row}
use Rattle.cmd_tasks.specs.Wanted.{IsWanted}
use Rattle.cmd_tasks.specs.Part.{from_of, given_of, keep_of, state_after}
use Rattle.cmd_tasks.specs.Looking.{Made, IsLooked, AreShort}
use Rattle.cmd_tasks.specs.Searching.{IsSearchable, IsFresh, IsSearching, IsSeen}
use Rattle.cmd_tasks.specs.Taking.{Standing, turn}
use Rattle.cmd_tasks.specs.Taking as turns
use Rattle.cmd_tasks.specs.Many.{doing_of, form_of, taking, put_for, IsMany, IsStart, IsStand, IsReadyTo, stand_left, tries_left, IsWaiting, IsStanding, IsAttempted, IsRetried}
use Rattle.cmd_tasks.specs.declared.ids.Ids.{Ids}
use Rattle.cmd_tasks.specs.declared.work.Many as declared_many
use Rattle.cmd_tasks.specs.declared.work.Attempt.{Attempt}
use Rattle.cmd_tasks.specs.declared.work.Insertions.{Insertions}
use Rattle.cmd_tasks.specs.declared.work.One.{One}
use Rattle.cmd_tasks.specs.declared.work.Wanted.{Wanted}
use Rattle.cmd_tasks.specs.declared.work.Progress.{Progress}
use Rattle.cmd_tasks.specs.declared.work.Part.{Part}
use Rattle.cmd_tasks.specs.declared.trace.Item.{Item}
use Rattle.cmd_tasks.specs.declared.work.State.{State}
use Rattle.cmd_tasks.specs.declared.work.State.TheVariants.{Inserting, Selecting, Listing, Counting, Choosing, Changing, Putting, Paging, Trying, Retrying, PuttingMany, Creating, Dropping, Naming, Unready, Done}
use Rattle.cmd_tasks.specs.declared.work.Moved.{Moved}
use Rattle.cmd_tasks.specs.declared.work.Moved.TheVariants as m

-- the part of a find that its state tells
abbrev pub paging : Part → PageOf
paging p = record { limit = p.limit; skip = p.skip; page = p.page.value }

-- the request that one document is changed for
abbrev pub changing : One → Job
changing one = changes_one (filter_tree one.search.wanted.filter) one.search.sort (doing_of one.doing) (form_of one.form)

-- the documents of an insertion, in order
abbrev pub documents_of : Vec Value Global → List Tree
documents_of all = map tree (reverse all.items)

-- the ids that are drawn for a command by a generator
abbrev pub ids_for : Ids → CommandTree → List Tree
ids_for ids c = drawn (draws c) (stream_of_ids ids)

-- the request that the work is of
abbrev pub asked : State → Option Job
asked (Inserting i) = Some (inserts (documents_of i.all.value) i.ordered)
asked (Selecting search progress projection) = Some (finds_one (filter_tree search.wanted.filter) search.sort projection)
asked (Listing search progress part) = Some (finds (filter_tree search.wanted.filter) search.sort part.projection (paging part))
asked (Counting w last n) = Some (counts (filter_tree w.filter))
asked (Choosing one progress) = Some (changing one)
asked (Changing one attempt reply) = Some (changing one)
asked (Putting one doc reply) = Some (changing one)
asked (Paging many stand) = Some (taking many)
asked (Trying many stand attempt) = Some (taking many)
asked (Retrying many stand id) = Some (taking many)
asked (PuttingMany many stand doc reply) = Some (taking many)
asked Creating = Some creates
asked Dropping = Some drops
asked Naming = Some names
asked (Unready command moment ids) = Some (job_of moment (ids_for ids.value (command_tree command.value)) (command_tree command.value))
asked (Done reply) = None

-- the numbers of the page are within their bounds, and the state keeps how many were given before
pub record IsPart (part : Part) : Type 0 where
  pub askable : IsAskablePaging (paging part)
  pub given : part.given ≡ given_of part.page.value

-- one document is searched for, and fewer attempts were lost than end it
pub record IsOne (one : One) : Type 0 where
  pub wanted : IsWanted one.search.wanted
  pub one_is : one.search.keep ≡ 1
  pub few : length one.lost.items < 4

-- each document that is left may be stored, they are the last ones of all, and one at least is left
pub record IsInsertions (i : Insertions) : Type 0 where
  pub storable : AllByRecursion (λ d. IsStorable (tree d)) i.left.items
  pub last : i.left.items ≡ take (length i.left.items) i.all.value.items
  pub some : 0 < length i.left.items
  pub few : length i.ids.items + length i.left.items ≤ 100

-- what the state keeps by itself
abbrev pub IsReady : State → Type 0
IsReady (Inserting i) = IsInsertions i
IsReady (Selecting search progress projection) = IsSearchable search progress × (search.keep ≡ 1)
IsReady (Listing search progress part) = IsSearchable search progress × IsPart part × (search.keep ≡ keep_of (paging part))
IsReady (Counting w last n) = IsWanted w × (n < 1001)
IsReady (Choosing one progress) = IsOne one × (progress.shown < 10001) × AreShort progress.kept.items
IsReady (Changing one attempt reply) = IsOne one × IsReadyTo attempt
IsReady (Putting one doc reply) = KeepsLimits doc
IsReady (Paging many stand) = IsMany many × IsStand stand × (stand.is_whole ≡ false) × (stand.queue.items ≡ [])
IsReady (Trying many stand attempt) = IsMany many × IsStand stand × (stand.matched < 20) × IsReadyTo attempt × (length stand.queue.items < 64)
IsReady (Retrying many stand id) = IsMany many × IsStand stand × (stand.matched < 20) × IsShort id × (length stand.queue.items < 64)
IsReady (PuttingMany many stand doc reply) = KeepsLimits doc
IsReady Creating = ⊤
IsReady Dropping = ⊤
IsReady Naming = ⊤
IsReady (Unready command moment ids) = IsAskable (command_tree command.value)
IsReady (Done reply) = ⊥

-- how many writes of the request were accepted
abbrev pub accepted_by : State → ℕ
accepted_by (Inserting i) = length i.ids.items
accepted_by (Paging many stand) = stand.modified
accepted_by (Trying many stand attempt) = stand.modified
accepted_by (Retrying many stand id) = stand.modified
accepted_by w = 0

-- nothing is inserted yet
pub record IsUnbegun (i : Insertions) : Type 0 where
  pub all : i.left.items ≡ i.all.value.items
  pub ids : i.ids.items ≡ []
  pub errors : i.errors.items ≡ []

-- the state in which a request begins
abbrev pub IsFirst : State → Type 0
IsFirst (Inserting i) = IsUnbegun i
IsFirst (Selecting search progress projection) = IsFresh None progress
IsFirst (Listing search progress part) = IsFresh (from_of (paging part)) progress
IsFirst (Counting w last n) = (last ≡ None) × (n ≡ 0)
IsFirst (Choosing one progress) = IsFresh None progress × (one.lost.items ≡ [])
IsFirst (Paging many stand) = IsStart (option_map (λ p. p.last) many.page.value) stand
IsFirst Creating = ⊤
IsFirst Dropping = ⊤
IsFirst Naming = ⊤
IsFirst (Unready command moment ids) = ⊤
IsFirst w = ⊥

pub record Begins (job : Job) (w : State) : Type 0 where
  pub asks : asked w ≡ Some job
  pub ready : IsReady w
  pub first : IsFirst w

-- of so many attempts that are left, each has a listing before it
abbrev pub tries_rank : ℕ → ℕ
tries_rank zero = 0
tries_rank (suc n) = tries_rank n + (rank_of None + 2)

-- the number that each step lowers that isn't the last one
abbrev pub left : State → ℕ
left (Inserting i) = length i.left.items
left (Selecting search progress projection) = rank_of progress.last
left (Listing search progress part) = rank_of progress.last
left (Counting w last n) = rank_of last
left (Choosing one progress) = tries_rank (4 - length one.lost.items) + (rank_of progress.last + 1)
left (Changing one attempt reply) = tries_rank (4 - length one.lost.items)
left (Putting one doc reply) = 0
left (Paging many stand) = stand_left stand
left (Trying many stand attempt) = stand_left stand + tries_left stand
left (Retrying many stand id) = stand_left stand + (tries_left stand + 1)
left (PuttingMany many stand doc reply) = 0
left w = 0

abbrev pub Steps : ℕ → ℕ → ℕ → State → List Entry → List Entry → Moved → Type 0
Steps k low high w H H' (m.Goes item w') = Made k low high H H' item × (asked w' ≡ asked w) × IsReady w' × (left w' < left w)
Steps k low high w H H' (m.Ends item reply) = Made k low high H H' item
Steps k low high w H H' m.NoMemory = H' ≡ H

-- the reply tells this document or none, or memory was wanting
abbrev pub Finds : Option Tree → Reply → Type 0
Finds d reply = TellsFound d reply ⊎ (reply ≡ NoMemory 0)

-- the reply shows these documents and the page state behind them
abbrev pub TellsPage : SortKeys → Part → List Version → Reply → Type 0
TellsPage sort part rows reply = TellsListed (map (λ v. view part.projection v.doc) rows) (state_after sort (paging part) (map found_row rows)) reply

-- the same, or memory was wanting
abbrev pub Lists : SortKeys → Part → List Version → Reply → Type 0
Lists sort part rows reply = TellsPage sort part rows reply ⊎ (reply ≡ NoMemory 0)

-- the step ends with this item and such a reply
abbrev pub EndsSo : Item → (Reply → Type 0) → Moved → Type 0
EndsSo item P (m.Goes i w) = ⊥
EndsSo item P (m.Ends i reply) = (i ≡ item) × P reply
EndsSo item P m.NoMemory = ⊥

-- the step ends with a look of this interval that shows nothing, and such a reply
abbrev pub EndsMarked : ℕ → Option Tree → Option Tree → (Reply → Type 0) → Moved → Type 0
EndsMarked at after up P (m.Goes i w) = ⊥
EndsMarked at after up P (m.Ends i reply) = IsLooked i at after up [] × P reply
EndsMarked at after up P m.NoMemory = ⊥

-- what a count makes of a page, after which so many are counted
abbrev pub count_to : Wanted → Item → ℕ → Option Tree → Moved
count_to w item n None = m.Ends item (counted n)
count_to w item n (Some u) = if nat_le 1001 n then m.Ends item (counted n) else m.Goes item (Counting w (Some u) n)

-- what a state asks of the store: the new document is what the updates make of the one that has the number that was read
abbrev pub Fits : Base → Name → State → Type 0
Fits s coll (Changing one attempt reply) = IsMadeOfRead attempt.change (Some attempt.read) (version s coll attempt.id)
Fits s coll (Trying many stand attempt) = IsMadeOfRead attempt.change (Some attempt.read) (version s coll attempt.id)
Fits s coll w = ⊤

module _ (base : Base) (coll : Name) (k : ℕ) where
  -- the sights so far are a part of the request that isn't answered yet
  abbrev pub IsBegun : Job → List Sight → Type 0
  IsBegun job sights = IsPartOf base coll k job sights × IsOpen base coll k job sights

  -- so many sights are of the first documents, and the state keeps which of these were inserted
  pub record IsInserting (i : Insertions) (sights : List Sight) : Type 0 where
    pub all : length sights + length i.left.items ≡ length i.all.value.items
    pub ids_are : i.ids.items ≡ inserted (documents_of i.all.value) sights
    pub errors_are : i.errors.items ≡ doubles (documents_of i.all.value) sights

  -- the present round has found nothing yet, and goes on
  pub record IsChoosing (one : One) (progress : Progress) (sights : List Sight) : Type 0 where
    pub searching : IsSearching base coll None one.search progress (round sights)
    pub none_yet : chosen base coll k (filter_tree one.search.wanted.filter) one.search.sort sights ≡ None
    pub goes_on : GoesOn base coll (filter_tree one.search.wanted.filter) (bound one.search.sort 1) (round sights)
    pub lost_are : reverse one.lost.items ≡ losses sights

  -- the change that is to be written is of the document that the present round has chosen, and the reply tells it
  pub record IsChosen (one : One) (attempt : Attempt) (reply : Reply) (sights : List Sight) : Type 0 where
    pub lost_are : reverse one.lost.items ≡ losses sights
    pub x : Found
    pub is : chosen base coll k (filter_tree one.search.wanted.filter) one.search.sort sights ≡ Some x
    pub number : x.tx ≡ attempt.read
    pub same_id : x.id ≡ attempt.id
    pub change : change_of (doing_of one.doing) x.doc ≡ Ok (Some attempt.change)
    pub seen : IsSeen base coll (filter_tree one.search.wanted.filter) x (round sights)
    pub tells : Tells (doing_of one.doing) (form_of one.form) (changed attempt.change x.doc) reply

  -- the document is to be inserted, since the present round found none, and the reply tells it
  pub record IsPutting (one : One) (doc : Tree) (reply : Reply) (sights : List Sight) : Type 0 where
    pub none_found : chosen base coll k (filter_tree one.search.wanted.filter) one.search.sort sights ≡ None
    pub is : insertion base coll k (filter_tree one.search.wanted.filter) one.search.sort (doing_of one.doing) sights ≡ Some doc
    pub tells : Tells (doing_of one.doing) (form_of one.form) (put doc) reply

  -- where a command stands that takes many
  abbrev pub stands_at : declared_many.Many → List Sight → Standing
  stands_at many sights = many_standing base coll k (filter_tree many.wanted.filter) (doing_of many.doing) many.page.value sights

  -- the document is to be inserted, since none was counted, and the reply tells it
  pub record IsPuttingMany (many : declared_many.Many) (doc : Tree) (reply : Reply) (sights : List Sight) : Type 0 where
    pub is : turn (put_for many) (doing_of many.doing) (stands_at many sights) ≡ turns.inserts doc
    pub none_written : (stands_at many sights).modified ≡ 0
    pub tells : reply ≡ UpdatedMany 0 0 (Some (id_of doc)) None

  -- the state keeps what the sights so far have shown
  abbrev pub Keeps : State → List Sight → Type 0
  Keeps (Inserting i) sights = IsInserting i sights
  Keeps (Selecting search progress projection) sights = IsSearching base coll None search progress sights
  Keeps (Listing search progress part) sights = IsSearching base coll (from_of (paging part)) search progress sights
  Keeps (Counting w last n) sights = (last ≡ next_from None sights) × (n ≡ length (shown base coll (filter_tree w.filter) sights))
  Keeps (Choosing one progress) sights = IsChoosing one progress sights
  Keeps (Changing one attempt reply) sights = IsChosen one attempt reply sights
  Keeps (Putting one doc reply) sights = IsPutting one doc reply sights
  Keeps (Paging many stand) sights =
      let st = stands_at many sights in IsWaiting base coll st sights × (st.queue ≡ []) × (st.again ≡ false) × IsStanding stand st []
  Keeps (Trying many stand attempt) sights =
      let st = stands_at many sights in IsWaiting base coll st sights × IsAttempted (doing_of many.doing) stand attempt st
  Keeps (Retrying many stand id) sights =
      let st = stands_at many sights in IsWaiting base coll st sights × IsRetried stand id st
  Keeps (PuttingMany many stand doc reply) sights = IsPuttingMany many doc reply sights
  Keeps Creating sights = ⊤
  Keeps Dropping sights = ⊤
  Keeps Naming sights = ⊤
  Keeps (Unready command moment ids) sights = sights ≡ []
  Keeps (Done reply) sights = ⊥

  abbrev pub IsUnderWay : State → List Sight → Type 0
  IsUnderWay w sights = IfSome (asked w) (λ job. IsBegun job sights) × Keeps w sights

  -- after these sights the step goes on with the request, or answers it
  abbrev pub Leads : List Entry → State → List Sight → Moved → Type 0
  Leads H' w earlier (m.Goes item w') = IsUnderWay w' (sight H' item ∷ earlier)
  Leads H' w earlier (m.Ends item reply) = IfSome (asked w) (λ job. Serves base coll k job (sight H' item ∷ earlier) reply)
  Leads H' w earlier m.NoMemory = ⊤

-- a step of the work promises of the request, wherever it stands: it goes on with it, or answers it
abbrev pub Promises : Option Base → Name → ℕ → List Entry → List Entry → State → Moved → Type 0
Promises start coll k H H' w o = ForSome start (λ base. (trace : List Item) → IsPlaced k H trace → IsUnderWay base coll k w (sights H trace) → Leads base coll k H' w (sights H trace) o)
