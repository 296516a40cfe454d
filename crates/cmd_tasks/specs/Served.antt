-- Which trace and which reply of a request belong together. Sights stand with the newest first.
use Rattle.std.specs.Prelude.{◌≡◌, ◌≢◌, ℕ, ℤ, ◌+◌, ◌-◌, ◌^◌, ◌<◌, ◌≤◌, ◌⊎◌, List, [], ◌∷◌, ◌++◌, length, map, reverse, min, nat_lt, Bool, true, false, ◌&&◌, Option, Some, None, IsSome, MatchOption, Ok, ⊤, if◌then◌else◌}
use Rattle.std.specs.Option.{option_map}
use Rattle.json_tree.specs.Tree.{Tree}
use Rattle.json_tree.specs.View.{tree}
use Rattle.shred_cols.specs.Row.{id_of}
use Rattle.shred_cols.specs.Rows.{first}
use Rattle.col_keeper.specs.Tables.{Name, names_of}
use Rattle.reply_env.specs.Messages as errors
use Rattle.reply_env.specs.Reply.{IsRefusal, IsRefusalOf, TellsInserted}
use Rattle.reply_env.specs.declared.reply.ErrorItem.{ErrorItem}
use Rattle.reply_env.specs.declared.update_errors.Loss.{Loss}
use Rattle.reply_env.specs.declared.reply.SoFar.{SoFar}
use Rattle.reply_env.specs.declared.reply.Reply.{Reply}
use Rattle.reply_env.specs.declared.reply.Reply.TheVariants.{Found as FoundOne, Listed, Counted, Done, Names, NoMemory}
use Rattle.store_core.specs.State.{State, Lives, IsGone}
use Rattle.store_core.specs.declared.entry.Entry.{Entry}
use Rattle.store_core.specs.declared.entry.Entry.TheVariants.{Created, Dropped, Failed}
use Rattle.store_core.specs.declared.entry.Change.{Change}
use Rattle.filter_tree.specs.Filters.{FilterTree}
use Rattle.view_sort.specs.Sort.{SortKeys}
use Rattle.view_sort.specs.View.{view}
use Rattle.view_sort.specs.declared.page.PageState.{PageState}
use Rattle.cmd_grammar.specs.Commands.{CommandTree}
use Rattle.cmd_tasks.specs.Trace.{Sight, sight, Found, now, shown, GoesOn, IsLook, next_from, IsListed}
use Rattle.cmd_tasks.specs.Searches.{bound, is_too_many, is_whole, in_order, first_of}
use Rattle.cmd_tasks.specs.Part.{from_of, keep_of, part_of, state_after}
use Rattle.cmd_tasks.specs.Attempts.{IsAttempt}
use Rattle.cmd_tasks.specs.Doing.{Doing, change_of, upsert_of}
use Rattle.cmd_tasks.specs.Jobs.{Job, Form, inserts, finds_one, finds, counts, changes_one, changes_many, creates, drops, names, job_of}
use Rattle.cmd_tasks.specs.Insertions.{IsInserted, IsTaken, IsInsertion, inserted, doubles, next_document, TellsInsertions}
use Rattle.cmd_tasks.specs.Outcomes.{Outcome, changed, put, Tells, TellsUnwritten, TellsNone, ready}
use Rattle.cmd_tasks.specs.Taking.{Standing, standing, Turn, turn}
use Rattle.cmd_tasks.specs.Turns.{IsOn, IsWrite, MarksTurn, Follows, so_far_of, upsert_for, Ends}
use Rattle.cmd_tasks.specs.declared.trace.Item.{Item}
use Rattle.cmd_tasks.specs.declared.trace.Item.TheVariants.{Looked, Wrote, Lost, Faulted}

-- how many writes were accepted
abbrev pub one_if_wrote : Item → ℕ
one_if_wrote (Looked at after up_to shown) = 0
one_if_wrote (Wrote at) = 1
one_if_wrote (Lost at read found) = 0
one_if_wrote (Faulted at before count) = 0

abbrev pub accepted : List Sight → ℕ
accepted [] = 0
accepted (s ∷ earlier) = one_if_wrote s.item + accepted earlier

-- the answer to so many that were shown
abbrev pub counted : ℕ → Reply
counted n = Counted (min n 1000) (nat_lt 1000 n)

-- the reply shows this document, or none
abbrev pub TellsFound : Option Tree → Reply → Type 0
TellsFound d (FoundOne view) = option_map tree view ≡ d
TellsFound d reply = ⊥

-- the reply shows these documents, and this page state or none
abbrev pub TellsListed : List Tree → Option (List ℕ) → Reply → Type 0
TellsListed ds next (Listed views state) = (map tree views.items ≡ ds) × (state ≡ next)
TellsListed ds next reply = ⊥

-- ---- a change of one document: rounds, of which each has looks and then an attempt

-- the lost attempts, the newest first
abbrev pub lost_by : Item → List Loss
lost_by (Looked at after up_to shown) = []
lost_by (Wrote at) = []
lost_by (Lost at read found) = record { read = read; found = found } ∷ []
lost_by (Faulted at before count) = []

abbrev pub losses : List Sight → List Loss
losses [] = []
losses (s ∷ earlier) = lost_by s.item ++ losses earlier

-- the looks of the present round: those since the last attempt
abbrev pub round_with : Item → Sight → List Sight → List Sight
round_with (Looked at after up_to shown) s looks = s ∷ looks
round_with (Wrote at) s looks = []
round_with (Lost at read found) s looks = []
round_with (Faulted at before count) s looks = []

abbrev pub round : List Sight → List Sight
round [] = []
round (s ∷ earlier) = round_with s.item s (round earlier)

-- ---- commands on collections

-- the item is a look at nothing, of no interval
abbrev pub IsMark : Item → Type 0
IsMark (Looked at after up_to shown) = (after ≡ None) × (up_to ≡ None) × (shown.items ≡ [])
IsMark (Wrote at) = ⊥
IsMark (Lost at read found) = ⊥
IsMark (Faulted at before count) = ⊥

-- the reply names these collections
abbrev pub TellsNames : List Name → Reply → Type 0
TellsNames ns (Names told) = told.items ≡ ns
TellsNames ns reply = ⊥

module _ (base : State) (coll : Name) (k : ℕ) where
  -- the collection was made by this session; or it lives, or is one more than may live, and nothing was done
  abbrev pub IsMade : Sight → Type 0
  IsMade s = (s.item ≡ Wrote (length s.past)) × (s.entry ≡ Some (Created k coll))

  abbrev pub IsThere : Sight → Type 0
  IsThere s = IsMark s.item × Lives coll (now base coll s)

  abbrev pub IsOneTooMany : Sight → Type 0
  IsOneTooMany s = IsMark s.item × IsGone coll (now base coll s) × (100 ≤ length (now base coll s).collections)

  -- it was deleted by this session; or it doesn't live, and nothing was done
  abbrev pub IsDropped : Sight → Type 0
  IsDropped s = (s.item ≡ Wrote (length s.past)) × (s.entry ≡ Some (Dropped k coll))

  abbrev pub IsAbsent : Sight → Type 0
  IsAbsent s = IsMark s.item × IsGone coll (now base coll s)

  -- ---- searches

  -- the document that the present round has chosen: the first of what matches, in the order of the sort
  abbrev pub chosen : FilterTree → SortKeys → List Sight → Option Found
  chosen f sort sights = first_of sort (round sights) (shown base coll f (round sights))

  -- a search for the first `keep` has come to its end: what it found, in the order of the sort, is told, or more match than are sorted
  abbrev pub IsFound : FilterTree → SortKeys → ℕ → List Sight → (List Found → Type 0) → Reply → Type 0
  IsFound f sort keep looks Told reply =
      IsListed base coll f (bound sort keep) looks
      × (((is_too_many sort (shown base coll f looks) ≡ true) × IsRefusal errors.too_many_to_sort reply)
      ⊎ ((is_too_many sort (shown base coll f looks) ≡ false) × Told (in_order sort (shown base coll f looks))))

  -- ---- one document is changed

  module _ (f : FilterTree) (sort : SortKeys) (doing : Doing) where
    -- the document that is to be inserted next: the present round came to the end and found none
    abbrev pub insertion : List Sight → Option Tree
    insertion sights = if is_whole (round sights) && nat_lt (length (shown base coll f (round sights))) 1 then ready (upsert_of f doing) else None

    -- the document that the newest sight is the insertion of
    abbrev pub put_last : List Sight → Option Tree
    put_last [] = None
    put_last (s ∷ earlier) = insertion earlier

    -- the change of the document that was chosen
    abbrev pub HasChange : Found → (Change → Type 0) → Type 0
    HasChange x P = (change : Change) × (change_of doing x.doc ≡ Ok (Some change)) × P change

    abbrev pub IsOpenOne : List Sight → Type 0
    IsOpenOne sights =
        (accepted sights ≡ 0) × (length (losses sights) < 4) × (put_last sights ≡ None)
        × MatchOption (chosen f sort sights) (GoesOn base coll f (bound sort 1) (round sights) ⊎ IsSome (insertion sights)) (λ x. HasChange x (λ change. ⊤))

    abbrev pub NextOne : List Sight → Sight → Type 0
    NextOne sights s =
        MatchOption (chosen f sort sights)
        (MatchOption (insertion sights) (IsLook base coll f (next_from None (round sights)) s) (λ d. IsInsertion base coll k d s))
        (λ x. HasChange x (λ change. IsAttempt base coll k f change (round sights) x s))

    abbrev pub MarksOne : List Sight → Option Tree → Option Tree → Type 0
    MarksOne sights after up =
        MatchOption (chosen f sort sights)
        (MatchOption (insertion sights) ((after ≡ next_from None (round sights)) × (up ≡ None)) (λ d. (after ≡ Some (id_of d)) × (up ≡ Some (id_of d))))
        (λ x. (after ≡ Some x.id) × (up ≡ Some x.id))

    module _ (form : Form) where
      -- the newest sight is the write of the change, and the reply tells it
      abbrev pub TellsWon : List Sight → Reply → Type 0
      TellsWon [] reply = ⊥
      TellsWon (s ∷ earlier) reply =
          (one_if_wrote s.item ≡ 1) × MatchOption (chosen f sort earlier) ⊥ (λ x. HasChange x (λ change. Tells doing form (changed change x.doc) reply))

      -- the newest sight is the insertion of this document, and the reply tells it, or that its id is there
      abbrev pub TellsPut : Tree → List Sight → Reply → Type 0
      TellsPut d [] reply = ⊥
      TellsPut d (s ∷ earlier) reply =
          (IsInserted base coll k d s × Tells doing form (put d) reply)
          ⊎ ((tx : ℕ) × IsTaken base coll k d tx s × IsRefusal (errors.already_exists (id_of d) tx) reply)

      -- the reply to the rounds: a change was written, or four were lost, or no write is needed
      abbrev pub AnswersRounds : List Sight → Reply → Type 0
      AnswersRounds sights reply =
          TellsWon sights reply
          ⊎ ((length (losses sights) ≡ 4) × IsRefusal (errors.lost_writes (reverse (losses sights))) reply)
          ⊎ ((accepted sights ≡ 0) × (length (losses sights) < 4)
          × IsFound f sort 1 (round sights) (λ xs. MatchOption (first xs) (TellsNone f doing form reply) (λ x. TellsUnwritten doing form x.doc reply)) reply)

      abbrev pub AnswersOne : List Sight → Reply → Type 0
      AnswersOne sights reply = MatchOption (put_last sights) (AnswersRounds sights reply) (λ d. TellsPut d sights reply)

  -- ---- many are

  -- where the command stands
  abbrev pub many_standing : FilterTree → Doing → Option PageState → List Sight → Standing
  many_standing f doing page sights = standing base coll f doing (option_map (λ p. p.last) page) sights

  abbrev pub many_turn : FilterTree → Doing → Option PageState → List Sight → Turn
  many_turn f doing page sights = turn (upsert_for f doing page) doing (many_standing f doing page sights)

  -- ---- errors that stop a request

  -- in the place of a write, no version number is left; or else the collection doesn't live
  abbrev pub IsMarked : Type 0 → Sight → ErrorItem → Type 0
  IsMarked to_write s error =
      (to_write × ((now base coll s).next ≡ 2 ^ 63 - 1) × (error ≡ errors.versions_spent))
      ⊎ ((to_write → (now base coll s).next ≢ 2 ^ 63 - 1) × IsGone coll (now base coll s) × (error ≡ errors.no_collection coll))

  -- the request stops at this sight, with this error: at a mark, or at a failed call
  abbrev pub Stops : (Option Tree → Option Tree → Type 0) → Type 0 → Item → Sight → ErrorItem → Type 0
  Stops marks to_write (Looked at after up_to shown) s error = marks after up_to × (shown.items ≡ []) × IsMarked to_write s error
  Stops marks to_write (Wrote at) s error = ⊥
  Stops marks to_write (Lost at read found) s error = ⊥
  Stops marks to_write (Faulted at before count) s error =
      (s.entry ≡ Some (Failed k before count)) × (error ≡ errors.store_fault before count)

  -- the errors that come before it
  abbrev pub errors_before : Job → List Sight → List ErrorItem
  errors_before (inserts ds ordered) sights = doubles ds sights
  errors_before job sights = []

  -- what a reply tells of the writes before an error; jobs that write at most once end with it
  abbrev pub TellsBefore : Job → List Sight → Option SoFar → Type 0
  TellsBefore (inserts ds ordered) sights so_far = TellsInserted (inserted ds sights) so_far
  TellsBefore (changes_many f doing page) sights so_far = so_far ≡ so_far_of doing (many_standing f doing page sights)
  TellsBefore job sights so_far = so_far ≡ None

  -- a write of a document comes next
  abbrev pub IsToWrite : Job → List Sight → Type 0
  IsToWrite (inserts ds ordered) sights = ⊤
  IsToWrite (changes_one f sort doing form) sights = IsSome (chosen f sort sights) ⊎ IsSome (insertion f sort doing sights)
  IsToWrite (changes_many f doing page) sights = IsWrite (many_turn f doing page sights)
  IsToWrite job sights = ⊥

  -- the interval of a look at a point where there is nothing to look at or to write
  abbrev pub Marks : Job → List Sight → Option Tree → Option Tree → Type 0
  Marks (inserts ds ordered) sights after up = MatchOption (next_document ds ordered sights) ⊥ (λ d. (after ≡ Some (id_of d)) × (up ≡ Some (id_of d)))
  Marks (finds_one f sort shows) sights after up = (after ≡ next_from None sights) × (up ≡ None)
  Marks (finds f sort shows p) sights after up = (after ≡ next_from (from_of p) sights) × (up ≡ None)
  Marks (counts f) sights after up = (after ≡ next_from None sights) × (up ≡ None)
  Marks (changes_one f sort doing form) sights after up = MarksOne f sort doing sights after up
  Marks (changes_many f doing page) sights after up = MarksTurn (many_turn f doing page sights) after up
  Marks creates sights after up = ⊥
  Marks drops sights after up = ⊥
  Marks names sights after up = ⊥

  -- ---- requests

  -- The request is not answered yet by the sights so far
  abbrev pub IsOpen : Job → List Sight → Type 0
  IsOpen (inserts ds ordered) sights = IsSome (next_document ds ordered sights)
  IsOpen (finds_one f sort shows) sights = GoesOn base coll f (bound sort 1) sights
  IsOpen (finds f sort shows p) sights = GoesOn base coll f (bound sort (keep_of p)) sights
  IsOpen (counts f) sights = GoesOn base coll f 1001 sights
  IsOpen (changes_one f sort doing form) sights = IsOpenOne f sort doing sights
  IsOpen (changes_many f doing page) sights = IsOn (many_turn f doing page sights)
  IsOpen creates sights = sights ≡ []
  IsOpen drops sights = sights ≡ []
  IsOpen names sights = sights ≡ []

  -- what comes next
  abbrev pub Next : Job → List Sight → Sight → Type 0
  Next (inserts ds ordered) sights s = MatchOption (next_document ds ordered sights) ⊥ (λ d. IsInsertion base coll k d s)
  Next (finds_one f sort shows) sights s = IsLook base coll f (next_from None sights) s
  Next (finds f sort shows p) sights s = IsLook base coll f (next_from (from_of p) sights) s
  Next (counts f) sights s = IsLook base coll f (next_from None sights) s
  Next (changes_one f sort doing form) sights s = NextOne f sort doing sights s
  Next (changes_many f doing page) sights s = Follows base coll k f (many_turn f doing page sights) s
  Next creates sights s = IsMade s ⊎ (IsThere s ⊎ IsOneTooMany s)
  Next drops sights s = IsDropped s ⊎ IsAbsent s
  Next names sights s = IsMark s.item

  -- the sights so far are those of the request
  abbrev pub IsPartOf : Job → List Sight → Type 0
  IsPartOf job [] = ⊤
  IsPartOf job (s ∷ earlier) = IsPartOf job earlier × IsOpen job earlier × Next job earlier s

  -- the reply of a command on collections to its one sight
  abbrev pub AnswersOnce : (Sight → Reply → Type 0) → List Sight → Reply → Type 0
  AnswersOnce Told [] reply = ⊥
  AnswersOnce Told (s ∷ earlier) reply = Told s reply

  -- the reply to all of them
  abbrev pub Answers : Job → List Sight → Reply → Type 0
  Answers (inserts ds ordered) sights reply = (next_document ds ordered sights ≡ None) × TellsInsertions (inserted ds sights) (doubles ds sights) reply
  Answers (finds_one f sort shows) sights reply =
      IsFound f sort 1 sights (λ xs. TellsFound (option_map (λ x. view shows x.doc) (first xs)) reply) reply
  Answers (finds f sort shows p) sights reply =
      IsFound f sort (keep_of p) sights (λ xs. TellsListed (map (λ x. view shows x.doc) (part_of p xs)) (state_after sort p (part_of p xs)) reply) reply
  Answers (counts f) sights reply =
      IsListed base coll f 1001 sights × (reply ≡ counted (length (shown base coll f sights)))
  Answers (changes_one f sort doing form) sights reply = AnswersOne f sort doing form sights reply
  Answers (changes_many f doing page) sights reply =
      Ends doing page (many_standing f doing page sights) (many_turn f doing page sights) reply
  Answers creates sights reply =
      AnswersOnce (λ s r. ((IsMade s ⊎ IsThere s) × (r ≡ Done)) ⊎ (IsOneTooMany s × IsRefusal errors.too_many_collections r)) sights reply
  Answers drops sights reply = AnswersOnce (λ s r. (IsDropped s ⊎ IsAbsent s) × (r ≡ Done)) sights reply
  Answers names sights reply = AnswersOnce (λ s r. IsMark s.item × TellsNames (names_of (now base coll s).collections) r) sights reply

  abbrev pub IsStopped : Job → List Sight → ErrorItem → Type 0
  IsStopped job [] error = ⊥
  IsStopped job (s ∷ earlier) error = IsPartOf job earlier × IsOpen job earlier × Stops (Marks job earlier) (IsToWrite job earlier) s.item s error

  -- the reply tells the errors and the writes before the newest sight, and then this error
  abbrev pub TellsStop : Job → List Sight → ErrorItem → Reply → Type 0
  TellsStop job [] error reply = ⊥
  TellsStop job (s ∷ earlier) error reply = IsRefusalOf (errors_before job earlier ++ error ∷ []) (TellsBefore job earlier) reply

  -- the trace, the newest sight first, and the reply belong to the request: it is answered, or stopped by an error, or cut off for want of memory
  abbrev pub Serves : Job → List Sight → Reply → Type 0
  Serves job sights reply =
      (IsPartOf job sights × Answers job sights reply)
      ⊎ ((error : ErrorItem) × IsStopped job sights error × TellsStop job sights error reply)
      ⊎ ((IsPartOf job sights ⊎ ((error : ErrorItem) × IsStopped job sights error)) × (reply ≡ NoMemory (accepted sights)))

-- what the trace saw of the history, the newest first
abbrev pub sights : List Entry → List Item → List Sight
sights H trace = reverse (map (sight H) trace)

-- the request was served: what it saw of the history H and the reply belong together; these ids were drawn for it
abbrev pub IsServed : State → List Entry → Name → ℕ → ℤ → List Tree → CommandTree → List Item → Reply → Type 0
IsServed base H coll k moment ids c trace reply = Serves base coll k (job_of moment ids c) (sights H trace) reply
