-- What becomes of each document that a page shows to a command that takes many documents.
use Rattle.std.specs.Prelude.{◌≡◌, ◌⊎◌, ℕ, ◌-◌, ◌+◌, ◌^◌, ◌<◌, List, [], ◌∷◌, ◌++◌, length, map, drop, min, nat_lt, Bool, true, false, ◌&&◌, Option, Some, None, MatchOption, IfSome, Result, Ok, ⊤, if◌then◌else◌}
use Rattle.std.specs.List.{filter, list_any, AllByRecursion as Each}
use Rattle.std.specs.Option.{option_map}
use Rattle.json_tree.specs.Tree.{Tree}
use Rattle.shred_cols.specs.Row.{Version, id_of}
use Rattle.shred_cols.specs.Rows.{is_after}
use Rattle.col_keeper.specs.Tables.{Name}
use Rattle.filter_tree.specs.Filters.{FilterTree}
use Rattle.update_ops.specs.declared.fault.UpdateFault.{UpdateFault}
use Rattle.view_sort.specs.Page.{state_text}
use Rattle.view_sort.specs.declared.page.PageState.{PageState}
use Rattle.reply_env.specs.declared.reply.SoFar.{SoFar}
use Rattle.reply_env.specs.declared.reply.SoFar.TheVariants as so_far
use Rattle.reply_env.specs.declared.reply.Reply.{Reply}
use Rattle.reply_env.specs.declared.reply.Reply.TheVariants.{UpdatedMany, DeletedMany, Refused, NoMemory}
use Rattle.store_core.specs.State.{State}
use Rattle.store_core.specs.declared.entry.Change.{Change}
use Rattle.cmd_tasks.specs.Trace.{Sight, Found, found, up_to, shown_by}
use Rattle.cmd_tasks.specs.Attempts.{IsOneOf, comes_between, IsWon}
use Rattle.cmd_tasks.specs.Part.{given_of}
use Rattle.cmd_tasks.specs.Pages.{last_of}
use Rattle.cmd_tasks.specs.Joined.{Rise, Matches}
use Rattle.cmd_tasks.specs.Doing.{Doing, makes, deletes, change_of}
use Rattle.cmd_tasks.specs.Taking.{Shown, shown_with, shown_alone}
use Rattle.cmd_tasks.specs.Turns.{IsAlone, upsert_for}
use Rattle.cmd_tasks.specs.Insertions.{IsInserted}
use Rattle.cmd_tasks.specs.Served.{accepted}
use Rattle.cmd_tasks.specs.declared.trace.Item.{Item}
use Rattle.cmd_tasks.specs.declared.trace.Item.TheVariants.{Looked, Wrote, Lost, Faulted}

-- ---- what may become of a document

-- it is changed, or is as the command makes it and stays so, or is passed over
pub data Fate : Type 0 where
  changed : Fate
  unchanged : Fate
  passed : Fate

abbrev pub is_changed : Fate → Bool
is_changed changed = true
is_changed unchanged = false
is_changed passed = false

-- what isn't passed over is counted
abbrev pub is_counted : Fate → Bool
is_counted changed = true
is_counted unchanged = true
is_counted passed = false

-- a document that a page showed, the look at the page, and what became of it
pub record Taken : Type 0 where
  pub shown : Shown
  pub fate : Fate

abbrev pub counted_of : List Taken → List Taken
counted_of taken = filter (λ t. is_counted t.fate) taken

abbrev pub changed_of : List Taken → List Taken
changed_of taken = filter (λ t. is_changed t.fate) taken

-- another session changed it, or dropped its collection, between the look at its page and one of these sights
abbrev pub IsTouched : Name → ℕ → List Sight → Shown → Type 0
IsTouched coll k sights s = (later : Sight) × IsOneOf later sights × (list_any (comes_between coll k s.x.id) (drop (length s.look.past) later.past) ≡ true)

module _ (base : State) (coll : Name) (k : ℕ) (f : FilterTree) (sights : List Sight) where
  -- another session changed it, and then a look at it alone showed these
  pub record ShowsNow (s : Shown) (xs : List Found) : Type 0 where
    pub newer : List Sight
    pub look : Sight
    pub earlier : List Sight
    pub are : sights ≡ newer ++ look ∷ earlier
    pub touched : IsTouched coll k earlier s
    pub alone : IsAlone base coll k f s.x.id look
    pub shows : shown_alone base coll f s.x.id look ≡ xs

  -- the document as its page showed it, or as a look at it alone did after another session had changed it
  abbrev pub IsVersion : Shown → Found → Type 0
  IsVersion s x = (x ≡ s.x) ⊎ ShowsNow s (x ∷ [])

  module _ (doing : Doing) where
    -- changed: a write of this session made of this version what the command makes of it
    abbrev pub IsChanged : Shown → Type 0
    IsChanged s = (x : Found) × IsVersion s x × ((change : Change) × (change_of doing x.doc ≡ Ok (Some change)) × ((write : Sight) × IsOneOf write sights × IsWon base coll k x change write))

    -- unchanged: the command makes of this version what it is
    abbrev pub IsUnchanged : Shown → Type 0
    IsUnchanged s = (x : Found) × IsVersion s x × (change_of doing x.doc ≡ Ok None)

    -- passed over: another session changed it, and then a look at it alone showed nothing that matches
    abbrev pub IsPassed : Shown → Type 0
    IsPassed s = ShowsNow s []

    abbrev pub Meets : Fate → Shown → Type 0
    Meets changed s = IsChanged s
    Meets unchanged s = IsUnchanged s
    Meets passed s = IsPassed s

-- ---- what the pages show

-- the item is a look of an interval with this id
abbrev pub comes_by : Tree → Item → Bool
comes_by id (Looked at after up shown) = is_after after id && up_to up id
comes_by id (Wrote at) = false
comes_by id (Lost at read found) = false
comes_by id (Faulted at before count) = false

module _ (base : State) (coll : Name) (f : FilterTree) where
  -- what the pages showed, in order, each with its look; the interval of a look at one id alone has no id
  abbrev pub listed : List Sight → List Shown
  listed [] = []
  listed (s ∷ earlier) = listed earlier ++ shown_with s (shown_by base coll f s)

  -- a page came by the id, and showed what matched there
  abbrev pub CameBy : List Sight → Tree → Type 0
  CameBy sights id = (s : Sight) × IsOneOf s sights × (comes_by id s.item ≡ true) × ((v : Version) → Matches base coll f id v s → IsOneOf (record { x = found (id, v); look = s }) (listed sights))

-- ---- where none was counted

-- the document was inserted, by a write of this session
abbrev pub IsPut : State → Name → ℕ → List Sight → Tree → Type 0
IsPut base coll k sights d = (write : Sight) × IsOneOf write sights × IsInserted base coll k d write

-- by so many writes
abbrev pub puts : Option Tree → ℕ
puts None = 0
puts (Some d) = 1

-- ---- what the reply tells

-- that no more match
abbrev pub TellsAll : Reply → Type 0
TellsAll (UpdatedMany matched modified upserted state) = state ≡ None
TellsAll (DeletedMany deleted more) = more ≡ false
TellsAll reply = ⊥

-- that an error came after so many were counted and changed
abbrev pub told_before : Doing → ℕ → ℕ → SoFar
told_before (makes making up) matched modified = so_far.Updated matched modified
told_before deletes matched modified = so_far.Deleted modified

module _ (page : Option PageState) (taken : List Taken) (left : List Shown) where
  abbrev pub matched : ℕ
  matched = length (counted_of taken)

  abbrev pub modified : ℕ
  modified = length (changed_of taken)

  -- 20 are counted, and some are left
  abbrev pub AreMore : Type 0
  AreMore = (matched ≡ 20) × (0 < length left)

  abbrev pub AreLeft : Bool → Type 0
  AreLeft true = AreMore
  AreLeft false = left ≡ []

  -- where the next page begins: behind the last one that was counted
  abbrev pub next_state : Option (List ℕ)
  next_state = option_map (λ t. state_text (min (given_of page + matched) (2 ^ 63 - 1)) t.shown.x.id) (last_of (counted_of taken))

  -- this document was to be inserted where none matches, and none was counted or is left
  abbrev pub IsDue : Option (Result Tree UpdateFault) → Tree → Type 0
  IsDue up d = (up ≡ Some (Ok d)) × (matched ≡ 0) × (left ≡ [])

  -- where none was inserted, none was to be, or some were counted
  abbrev pub IsUndue : Option (Result Tree UpdateFault) → Option Tree → Type 0
  IsUndue up None = (up ≡ None) ⊎ (0 < matched)
  IsUndue up (Some d) = ⊤

  -- what is to be inserted where none matches, and what was
  module _ (up : Option (Result Tree UpdateFault)) (put : Option Tree) where
    -- how many were counted and changed, what was inserted, and whether some are left; or an error, with what was written before;
    -- or want of memory
    abbrev pub Tells : Doing → Reply → Type 0
    Tells (makes making id) (UpdatedMany m n upserted state) =
        (m ≡ matched) × (n ≡ modified) × (upserted ≡ option_map id_of put) × IsUndue up put × MatchOption state (left ≡ []) (λ text. AreMore × (next_state ≡ Some text))
    Tells deletes (DeletedMany n more) = (n ≡ modified) × AreLeft more
    Tells doing (Refused errors before) = (before ≡ (if nat_lt 0 modified then Some (told_before doing matched modified) else None)) × (put ≡ None)
    Tells doing (NoMemory n) = n ≡ modified + puts put
    Tells doing reply = ⊥

-- The documents that pages showed, in order of id, so none twice: first those that were taken, each changed, unchanged or passed
-- over, and then those that are left. The writes of the request are those of the changed ones, and one of a document that was
-- inserted since none was counted; the reply tells how many they are. The pages came by each id behind the start, unless the
-- reply tells that more may match: then as far as they showed any, and none was inserted
pub record AreTaken (base : State) (coll : Name) (k : ℕ) (f : FilterTree) (doing : Doing) (page : Option PageState) (sights : List Sight) (reply : Reply) : Type 0 where
  pub taken : List Taken
  pub left : List Shown
  pub put : Option Tree
  pub all : listed base coll f sights ≡ map (λ t. t.shown) taken ++ left
  pub rise : Rise (map (λ s. s.x) (listed base coll f sights))
  pub each : Each (λ t. Meets base coll k f sights doing t.fate t.shown) taken
  pub inserted : IfSome put (λ d. IsPut base coll k sights d × IsDue page taken left (upsert_for f doing page) d)
  pub writes : accepted sights ≡ modified page taken left + puts put
  pub tells : Tells page taken left (upsert_for f doing page) put doing reply
  pub whole : (id : Tree) → is_after (option_map (λ p. p.last) page) id ≡ true
      → CameBy base coll f sights id ⊎ ((TellsAll reply → ⊥) × (put ≡ None) × Each (λ s. is_after (Some s.x.id) id ≡ true) (listed base coll f sights))
