-- Commands that take many documents: what their states keep by themselves, and what they keep of the sights.
use Rattle.std.specs.Prelude.{◌≡◌, ℕ, ◌+◌, ◌-◌, ◌*◌, ◌<◌, ◌≤◌, List, [], ◌∷◌, length, map, reverse, Bool, true, false, is_none, Option, Some, None, ⊤, Result, Ok}
use Rattle.std.specs.List.{AllByRecursion, list_any}
use Rattle.std.specs.Ordering.{is_lt}
use Rattle.json_tree.specs.Tree.{Tree}
use Rattle.json_tree.specs.Id.{id_cmp}
use Rattle.col_keeper.specs.Tables.{Name, IsShort}
use Rattle.filter_tree.specs.Filters.{FilterTree}
use Rattle.filter_tree.specs.View.{filter_tree}
use Rattle.view_sort.specs.declared.page.PageState.{PageState}
use Rattle.update_ops.specs.declared.fault.UpdateFault.{UpdateFault}
use Rattle.store_core.specs.State.{State as Base, version}
use Rattle.store_core.specs.Journal.{FitsId, new_doc}
use Rattle.store_core.specs.Numbers.{touches}
use Rattle.store_core.specs.Tries.{IsRead}
use Rattle.cmd_grammar.specs.Commands.{IsAskablePage}
use Rattle.cmd_tasks.specs.Rank.{rank_of}
use Rattle.cmd_tasks.specs.Trace.{Sight, now, up_to}
use Rattle.cmd_tasks.specs.Searches.{stored}
use Rattle.cmd_tasks.specs.Part.{given_of}
use Rattle.cmd_tasks.specs.Pages.{found_row}
use Rattle.cmd_tasks.specs.Wanted.{IsWanted}
use Rattle.cmd_tasks.specs.Looking.{AreShort}
use Rattle.cmd_tasks.specs.Attempts.{IsOneOf}
use Rattle.cmd_tasks.specs.Doing.{Making, updates, replaces, Doing, makes, deletes, change_of}
use Rattle.cmd_tasks.specs.Jobs.{Form, by_counts, shows, Job, changes_many}
use Rattle.cmd_tasks.specs.Taking.{Shown, Standing, not_put}
use Rattle.cmd_tasks.specs.Turns.{upsert_for}
use Rattle.cmd_tasks.specs.declared.work.Making as declared_making
use Rattle.cmd_tasks.specs.declared.work.Making.TheVariants as mk
use Rattle.cmd_tasks.specs.declared.work.Doing as declared_doing
use Rattle.cmd_tasks.specs.declared.work.Doing.TheVariants as d
use Rattle.cmd_tasks.specs.declared.work.Form as declared_form
use Rattle.cmd_tasks.specs.declared.work.Form.TheVariants as fm
use Rattle.cmd_tasks.specs.declared.work.Many as declared_many
use Rattle.cmd_tasks.specs.declared.work.Stand.{Stand}
use Rattle.cmd_tasks.specs.declared.work.Attempt.{Attempt}

abbrev pub making_of : declared_making.Making → Making
making_of (mk.Updates u moment) = updates u moment
making_of (mk.Replacement document) = replaces document

abbrev pub doing_of : declared_doing.Doing → Doing
doing_of (d.Makes making up) = makes (making_of making) up
doing_of d.Deletes = deletes

abbrev pub form_of : declared_form.Form → Form
form_of fm.ByCounts = by_counts
form_of (fm.Shows projection after) = shows projection after

-- the request that many are taken for
abbrev pub taking : declared_many.Many → Job
taking many = changes_many (filter_tree many.wanted.filter) (doing_of many.doing) many.page.value

-- what is inserted where none matches
abbrev pub put_for : declared_many.Many → Option (Result Tree UpdateFault)
put_for many = upsert_for (filter_tree many.wanted.filter) (doing_of many.doing) many.page.value

pub record IsMany (many : declared_many.Many) : Type 0 where
  pub wanted : IsWanted many.wanted
  pub page : IsAskablePage many.page.value
  pub given : many.given ≡ given_of many.page.value
  pub is_first : many.is_first ≡ is_none many.page.value

-- nothing is listed yet; the first page begins there
pub record IsStart (from : Option Tree) (stand : Stand) : Type 0 where
  pub from_is : stand.from ≡ from
  pub unlisted : stand.is_whole ≡ false
  pub queue : stand.queue.items ≡ []
  pub lost : stand.lost.items ≡ []
  pub matched : stand.matched ≡ 0
  pub modified : stand.modified ≡ 0
  pub last : stand.last ≡ None

-- no more are counted, changed and waiting than may be
pub record IsStand (stand : Stand) : Type 0 where
  pub few : stand.matched ≤ 20
  pub changed : stand.modified ≤ stand.matched
  pub waiting : length stand.queue.items ≤ 64
  pub short : AreShort stand.queue.items
  pub lost : length stand.lost.items < 4

-- the change may be written in the place of the version that was read
pub record IsReadyTo (attempt : Attempt) : Type 0 where
  pub read : IsRead attempt.change (Some attempt.read)
  pub short : IsShort attempt.id
  pub new : FitsId attempt.id (new_doc attempt.change)

-- ---- what each step lowers: a page has at most 64 rows, and each of them at most four attempts with three looks between

abbrev pub pages_left : Bool → Option Tree → ℕ
pages_left true from = 0
pages_left false from = (rank_of from + 1) * 520

abbrev pub stand_left : Stand → ℕ
stand_left stand = pages_left stand.is_whole stand.from + length stand.queue.items * 8

abbrev pub tries_left : Stand → ℕ
tries_left stand = (4 - length stand.lost.items) * 2

-- ---- what is kept of the sights

-- the id was passed by the listing
abbrev pub is_passed : Standing → Tree → Bool
is_passed st id = elim st.from as (λ _. Bool) [ None ↦ st.is_whole | Some u ↦ up_to (Some u) id ]

-- one of the sights wrote to this id
abbrev pub is_written : Name → Tree → List Sight → Bool
is_written coll id sights = list_any (λ s. elim s.entry as (λ _. Bool) [ None ↦ false | Some e ↦ touches coll id e ]) sights

abbrev pub Ascends : List Shown → Type 0
Ascends [] = ⊤
Ascends (s ∷ rest) = AllByRecursion (λ t. is_lt (id_cmp s.x.id t.x.id) ≡ true) rest × Ascends rest

module _ (base : Base) (coll : Name) where
  -- each of the queue stood as it was shown, and the request hasn't written to it, since ids ascend
  pub record IsWaiting (st : Standing) (sights : List Sight) : Type 0 where
    pub stood : AllByRecursion (λ s. IsOneOf s.look sights × (version (now base coll s.look) coll s.x.id ≡ Some (stored s.x))) st.queue
    pub ascends : Ascends st.queue
    pub passed : AllByRecursion (λ s. is_passed st s.x.id ≡ true) st.queue
    pub written : (id : Tree) → is_written coll id sights ≡ true → (is_passed st id ≡ true) × AllByRecursion (λ s. is_lt (id_cmp id s.x.id) ≡ true) st.queue

-- the state tells where the command stands, with these still waiting
pub record IsStanding (stand : Stand) (st : Standing) (waiting : List Shown) : Type 0 where
  pub from : stand.from ≡ st.from
  pub is_whole : stand.is_whole ≡ st.is_whole
  pub queue : map found_row (reverse stand.queue.items) ≡ map (λ s. s.x) waiting
  pub lost : reverse stand.lost.items ≡ st.losses
  pub matched : stand.matched ≡ st.matched
  pub modified : stand.modified ≡ st.modified
  pub last : stand.last ≡ st.last
  pub unput : st.put ≡ not_put

-- the first one is attempted next, by this change
pub record IsAttempted (doing : Doing) (stand : Stand) (attempt : Attempt) (st : Standing) : Type 0 where
  pub first : Shown
  pub rest : List Shown
  pub queue : st.queue ≡ first ∷ rest
  pub first_time : st.again ≡ false
  pub id : first.x.id ≡ attempt.id
  pub read : first.x.tx ≡ attempt.read
  pub change : change_of doing first.x.doc ≡ Ok (Some attempt.change)
  pub stands : IsStanding stand st rest

-- the first one is looked at alone next
pub record IsRetried (stand : Stand) (id : Tree) (st : Standing) : Type 0 where
  pub first : Shown
  pub rest : List Shown
  pub queue : st.queue ≡ first ∷ rest
  pub again : st.again ≡ true
  pub id_is : first.x.id ≡ id
  pub stands : IsStanding stand st rest
