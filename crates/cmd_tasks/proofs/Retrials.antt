-- A command that takes many documents looks again at the one on which its attempt was lost.
use Rattle.std.proofs.Common.{◌≡◌, ℕ, ℤ, ◌<◌, List, [], ◌∷◌, ◌++◌, map, reverse, length, Bool, true, false, Option, Some, None, refl, sym, ap, ◌∙◌, subst, arith, inr, ⊎_elim, ◌⊎◌}
use Rattle.std.specs.Prelude.{IfSome, if◌then◌else◌}
use Rattle.std.proofs.lemmas.List.{reverse-append, length-reverse}
use Rattle.json_tree.specs.Tree.{Tree}
use Rattle.shred_cols.specs.Row.{Version, id_of}
use Rattle.col_keeper.specs.Tables.{Name}
use Rattle.filter_tree.specs.Filters.{FilterTree}
use Rattle.filter_tree.specs.Matches.{matches}
use Rattle.filter_tree.specs.View.{filter_tree}
use Rattle.reply_env.specs.Messages as errors
use Rattle.reply_env.specs.declared.reply.ErrorItem.{ErrorItem}
use Rattle.reply_env.specs.declared.reply.Reply.{Reply}
use Rattle.reply_env.specs.declared.update_errors.Loss.{Loss}
use Rattle.store_core.specs.State.{State as Base, Lives, IsGone, version}
use Rattle.store_core.specs.Journal.{replay}
use Rattle.store_core.specs.declared.entry.Entry.{Entry}
use Rattle.store_core.specs.declared.entry.Entry.TheVariants.{Failed}
use Rattle.cmd_tasks.specs.Trace.{Sight, sight, Found, now}
use Rattle.cmd_tasks.specs.Served.{IsPartOf, Stops, Marks, IsToWrite, Serves}
use Rattle.cmd_tasks.specs.Pages.{found_row}
use Rattle.cmd_tasks.specs.Looking.{IsLooked, Refuses}
use Rattle.cmd_tasks.specs.Doing.{Doing}
use Rattle.cmd_tasks.specs.Jobs.{Job}
use Rattle.cmd_tasks.specs.Taking.{Shown, Standing, settle, matching, shown_alone, replace, look_again, with_look, with_item, Turn, turn, looks_again}
use Rattle.cmd_tasks.specs.Turns.{IsWrite, MarksTurn, LooksAlone, IsAlone, Follows}
use Rattle.cmd_tasks.specs.Many.{doing_of, taking, put_for, IsWaiting, IsStanding, IsRetried}
use Rattle.cmd_tasks.specs.Going.{GoesOnFrom}
use Rattle.cmd_tasks.specs.ManySteps.{matching_row, pairs_of, HasFirst, Retakes, EndsAfter, TellsAfter}
use Rattle.cmd_tasks.specs.Moves.{Steps, IsUnderWay, Leads, EndsSo, EndsMarked, stands_at}
use Rattle.cmd_tasks.specs.declared.work.Many.{Many}
use Rattle.cmd_tasks.specs.declared.work.Stand.{Stand}
use Rattle.cmd_tasks.specs.declared.work.State.TheVariants.{Retrying}
use Rattle.cmd_tasks.specs.declared.work.Moved.{Moved}
use Rattle.cmd_tasks.specs.declared.work.Moved.TheVariants as m
use Rattle.cmd_tasks.specs.declared.trace.Item.{Item}
use Rattle.cmd_tasks.specs.declared.trace.Item.TheVariants.{Looked, Wrote, Lost, Faulted}
use Rattle.cmd_tasks.proofs.Glances.{saw, looked_here, failed_stops}
use Rattle.cmd_tasks.proofs.Waiting.{Waits, waits, is_waiting, waits_again, waits_over, waits_settled}
use Rattle.cmd_tasks.proofs.Leavings.{again_steps}
use Rattle.cmd_tasks.proofs.Kept.{settled_again, settled_put}
use Rattle.cmd_tasks.proofs.Turnings.{retrying_turn}
use Rattle.cmd_tasks.proofs.Following.{many_stopped, goes_leads}

-- what the item shows is the document, if it matches
pairs_alone : (f : FilterTree) (id : Tree) (row : Option Version) → IfSome row (λ v. id_of v.doc ≡ id) → pairs_of (matching_row f row) ≡ map (λ (x : Found). (x.id, x.tx)) (matching f id row)
pairs_alone f id None h = refl
pairs_alone f id (Some v) h = elim (matches f v.doc) as (λ b. pairs_of (if b then Some v else None) ≡ map (λ (x : Found). (x.id, x.tx)) (if b then record { id = id; tx = v.tx; doc = v.doc } ∷ [] else [])) [
  | true ↦ ap (λ (i : Tree). (i, v.tx) ∷ []) h
  | false ↦ refl
]

looks_alone : (id : Tree) (xs : List Found) (i : Item) (at : ℕ) (after up : Tree) (pairs : List (Tree × ℕ)) → IsLooked i at (Some after) (Some up) pairs → after ≡ id → up ≡ id → pairs ≡ map (λ (x : Found). (x.id, x.tx)) xs → LooksAlone id xs i
looks_alone id xs (Looked a from to page) at after up pairs is after_is up_is shows = (is.1 ∙ ap (λ (t : Tree). Some t) after_is, is.2 ∙ ap (λ (t : Tree). Some t) up_is, is.3 ∙ shows)
looks_alone id xs (Wrote a) at after up pairs is after_is up_is shows = absurd is
looks_alone id xs (Lost a read found) at after up pairs is after_is up_is shows = absurd is
looks_alone id xs (Faulted a low high) at after up pairs is after_is up_is shows = absurd is

looked_entry : (H' : List Entry) (i : Item) (at : ℕ) (after up : Option Tree) (pairs : List (Tree × ℕ)) → IsLooked i at after up pairs → (sight H' i).entry ≡ None
looked_entry H' (Looked a from to page) at after up pairs is = refl
looked_entry H' (Wrote a) at after up pairs is = absurd is
looked_entry H' (Lost a read found) at after up pairs is = absurd is
looked_entry H' (Faulted a low high) at after up pairs is = absurd is

looked_past : (H H' : List Entry) (i : Item) (at : ℕ) (after up : Option Tree) (pairs : List (Tree × ℕ)) → IsLooked i at after up pairs → H' ≡ H → at ≡ length H → (sight H' i).past ≡ H
looked_past H H' (Looked a from to page) at after up pairs is same here = saw H H' a same (is.0 ∙ here)
looked_past H H' (Wrote a) at after up pairs is same here = absurd is
looked_past H H' (Lost a read found) at after up pairs is same here = absurd is
looked_past H H' (Faulted a low high) at after up pairs is same here = absurd is

pub retakes_steps : (k low high : ℕ) (H H' : List Entry) (many : Many) (stand : Stand) (id : Tree) (at : ℕ) (after up : Tree) (row : Option Version) (o : Moved) → H' ≡ H → at ≡ length H → Retakes at after up many stand row o ⊎ (o ≡ m.NoMemory)
    → Steps k low high (Retrying many stand id) H H' o
retakes_steps k low high H H' many stand id at after up row o same here h = ⊎_elim
    (λ (r : Retakes at after up many stand row o). again_steps k low high H H' many stand r.new id r.item (matching_row (filter_tree many.wanted.filter) row) o
    (looked_here k low high H H' r.item at (Some after) (Some up) (pairs_of (matching_row (filter_tree many.wanted.filter) row)) same here r.looks) r.has r.ready)
    (λ (e : o ≡ m.NoMemory). subst (Steps k low high (Retrying many stand id) H H') (sym e) same)
    h

module _ (base : Base) (coll : Name) (k : ℕ) (many : Many) (stand : Stand) (id : Tree) (few : length stand.lost.items < 4) (H H' : List Entry) (earlier : List Sight)
    (way : IsUnderWay base coll k (Retrying many stand id) earlier) where
  abbrev f : FilterTree
  f = filter_tree many.wanted.filter

  abbrev doing : Doing
  doing = doing_of many.doing

  abbrev job : Job
  job = taking many

  abbrev st : Standing
  st = stands_at base coll k many earlier

  abbrev is : IsRetried stand id st
  is = way.1.1

  abbrev first : Shown
  first = is.first

  looks : turn (put_for many) doing st ≡ looks_again first.x.id
  looks = retrying_turn (put_for many) doing st first is.rest is.again is.queue (let a = ap length is.stands.lost in let b = length-reverse stand.lost.items in omega arith)

  before : Waits base coll st.from st.is_whole (first ∷ is.rest) earlier
  before = subst (λ (q : List Shown). Waits base coll st.from st.is_whole q earlier) is.queue (waits base coll st earlier way.1.0)

  -- ---- the row

  module _ (item : Item) (at : ℕ) (after up : Tree) (row : Option Version) (same : H' ≡ H) (here : at ≡ length H) (after_is : after ≡ id) (up_is : up ≡ id)
      (lives : Lives coll (replay base H)) (there : version (replay base H) coll id ≡ row) (keyed : IfSome row (λ v. id_of v.doc ≡ id)) (shows : IsLooked item at (Some after) (Some up) (pairs_of (matching_row f row))) where
    abbrev s : Sight
    s = sight H' item

    past : s.past ≡ H
    past = looked_past H H' item at (Some after) (Some up) (pairs_of (matching_row f row)) shows same here

    entry : s.entry ≡ None
    entry = looked_entry H' item at (Some after) (Some up) (pairs_of (matching_row f row)) shows

    stood : version (now base coll s) coll first.x.id ≡ row
    stood = ap (λ (l : List Entry). version (replay base l) coll first.x.id) past ∙ (ap (λ (i : Tree). version (replay base H) coll i) is.id_is ∙ there)

    keyed_first : IfSome row (λ v. id_of v.doc ≡ first.x.id)
    keyed_first = subst (λ (i : Tree). IfSome row (λ v. id_of v.doc ≡ i)) (sym is.id_is) keyed

    shown_is : shown_alone base coll f first.x.id s ≡ matching f first.x.id row
    shown_is = ap (matching f first.x.id) stood

    alone : IsAlone base coll k f first.x.id s
    alone = (
      subst (λ (l : List Entry). Lives coll (replay base l)) (sym past) lives,
      looks_alone first.x.id (shown_alone base coll f first.x.id s) item at after up (pairs_of (matching_row f row)) shows (after_is ∙ sym is.id_is) (up_is ∙ sym is.id_is)
          (pairs_alone f first.x.id row keyed_first ∙ ap (map (λ (x : Found). (x.id, x.tx))) (sym shown_is)),
    )

    part : IsPartOf base coll k job (s ∷ earlier)
    part = (way.0.0, way.0.1, subst (λ (t : Turn). Follows base coll k f t s) (sym looks) alone)

    abbrev retaken : Option Version → Standing
    retaken r = replace base coll f s (matching f first.x.id r) is.rest st

    looked : (i : Item) → IsLooked i at (Some after) (Some up) (pairs_of (matching_row f row)) → with_item base coll f doing i s st ≡ settle doing (with_look base coll f st.again s st)
    looked (Looked a from to page) h = refl
    looked (Wrote a) h = absurd h
    looked (Lost a read found) h = absurd h
    looked (Faulted a low high) h = absurd h

    stands : stands_at base coll k many (s ∷ earlier) ≡ settle doing (retaken row)
    stands = looked item shows
        ∙ (ap (λ (b : Bool). settle doing (with_look base coll f b s st)) is.again
        ∙ (ap (λ (q : List Shown). settle doing (look_again base coll f s q st)) is.queue
        ∙ ap (λ (xs : List Found). settle doing (replace base coll f s xs is.rest st)) shown_is))

    replaced_again : (xs : List Found) → (replace base coll f s xs is.rest st).again ≡ false
    replaced_again [] = refl
    replaced_again (x ∷ xs) = refl

    replaced_put : (xs : List Found) → (replace base coll f s xs is.rest st).put ≡ st.put
    replaced_put [] = refl
    replaced_put (x ∷ xs) = refl

    abbrev with_id : Version → Found
    with_id v = record { id = first.x.id; tx = v.tx; doc = v.doc }

    over_standing : (new : Stand) → HasFirst stand None new → IsStanding new (replace base coll f s [] is.rest st) is.rest
    over_standing new has = record {
      from = has.from_is ∙ is.stands.from;
      is_whole = has.whole_is ∙ is.stands.is_whole;
      queue = ap (λ (q : List Version). map found_row (reverse q)) has.queue_is ∙ is.stands.queue;
      lost = ap (λ (l : List Loss). reverse l) has.lost_is;
      matched = has.matched_is ∙ is.stands.matched;
      modified = has.modified_is ∙ is.stands.modified;
      last = has.last_is ∙ is.stands.last;
      unput = is.stands.unput;
    }

    first_standing : (new : Stand) (v : Version) → id_of v.doc ≡ first.x.id → HasFirst stand (Some v) new → IsStanding new (replace base coll f s (with_id v ∷ []) is.rest st) (record { x = with_id v; look = s } ∷ is.rest)
    first_standing new v id_is has = record {
      from = has.from_is ∙ is.stands.from;
      is_whole = has.whole_is ∙ is.stands.is_whole;
      queue = ap (λ (q : List Version). map found_row (reverse q)) has.queue_is ∙ (ap (map found_row) (reverse-append stand.queue.items (v ∷ [])) ∙ (λ j. record { id = id_is j; tx = v.tx; doc = v.doc } ∷ is.stands.queue j));
      lost = ap (λ (l : List Loss). reverse l) has.lost_is ∙ is.stands.lost;
      matched = has.matched_is ∙ is.stands.matched;
      modified = has.modified_is ∙ is.stands.modified;
      last = has.last_is ∙ is.stands.last;
      unput = is.stands.unput;
    }

    standing_of : (r : Option Version) (new : Stand) → IfSome r (λ v. id_of v.doc ≡ first.x.id) → HasFirst stand (matching_row f r) new → IsStanding new (retaken r) (retaken r).queue
    standing_of None new id_is has = over_standing new has
    standing_of (Some v) new id_is has = elim (matches f v.doc) as (λ b. HasFirst stand (if b then Some v else None) new
        → IsStanding new (replace base coll f s (if b then with_id v ∷ [] else []) is.rest st) (replace base coll f s (if b then with_id v ∷ [] else []) is.rest st).queue) [
          | true ↦ λ h. first_standing new v id_is h
          | false ↦ λ h. over_standing new h
        ] has

    abbrev WaitsSo : Standing → Type 0
    WaitsSo z = Waits base coll z.from z.is_whole z.queue (s ∷ earlier)

    waits_row : (r : Option Version) → version (now base coll s) coll first.x.id ≡ r → WaitsSo (retaken r)
    waits_row None e = waits_over base coll st.from st.is_whole first is.rest s earlier entry before
    waits_row (Some v) e = elim (matches f v.doc) as (λ b. WaitsSo (replace base coll f s (if b then with_id v ∷ [] else []) is.rest st)) [
      | true ↦ waits_again base coll st.from st.is_whole first is.rest (with_id v) s earlier entry refl e before
      | false ↦ waits_over base coll st.from st.is_whole first is.rest s earlier entry before
    ]

    pub again_leads : (new : Stand) (o : Moved) → HasFirst stand (matching_row f row) new → ((z : Standing) → IsStanding new z z.queue → z.again ≡ false → GoesOnFrom many item (settle doing z) o) → Leads base coll k H' (Retrying many stand id) earlier o
    again_leads new o has goes = goes_leads base coll k many H' earlier item part
        (ap (λ (z : Standing). z.again) stands ∙ (settled_again doing (retaken row).queue (retaken row) ∙ replaced_again (matching f first.x.id row)))
        (ap (λ (z : Standing). z.put) stands ∙ (settled_put doing (retaken row).queue (retaken row) ∙ (replaced_put (matching f first.x.id row) ∙ is.stands.unput)))
        (subst (λ (z : Standing). IsWaiting base coll z (s ∷ earlier)) (sym stands) (is_waiting base coll (settle doing (retaken row)) (s ∷ earlier) (waits_settled base coll doing (retaken row).queue (retaken row) (s ∷ earlier) (waits_row row stood))))
        (Retrying many stand id) o refl
        (subst (λ (z : Standing). GoesOnFrom many item z o) (sym stands) (goes (retaken row) (standing_of row new keyed_first has) (replaced_again (matching f first.x.id row))))

  pub retakes_leads : (at : ℕ) (after up : Tree) (row : Option Version) (o : Moved) → H' ≡ H → at ≡ length H → after ≡ id → up ≡ id → Lives coll (replay base H) → version (replay base H) coll id ≡ row → IfSome row (λ v. id_of v.doc ≡ id)
      → Retakes at after up many stand row o ⊎ (o ≡ m.NoMemory) → Leads base coll k H' (Retrying many stand id) earlier o
  retakes_leads at after up row o same here after_is up_is lives there keyed h = ⊎_elim
      (λ (r : Retakes at after up many stand row o). again_leads r.item at after up row same here after_is up_is lives there keyed r.looks r.new o r.has r.goes)
      (λ (e : o ≡ m.NoMemory). subst (Leads base coll k H' (Retrying many stand id) earlier) (sym e) tt)
      h

  -- ---- it stops there

  stops : (i : Item) (error : ErrorItem) (r : Reply) → Stops base coll k (Marks base coll k job earlier) (IsToWrite base coll k job earlier) i (sight H' i) error → TellsAfter many.doing stand error r → Serves base coll k job (sight H' i ∷ earlier) r
  stops i error r stop told = many_stopped base coll k f doing many.page.value earlier (sight H' i) error r way.0 stop is.stands.unput (told st is.stands.matched is.stands.modified)

  gone_stops : (i : Item) (at : ℕ) (after up : Tree) → after ≡ id → up ≡ id → H' ≡ H → at ≡ length H → IsGone coll (replay base H) → IsLooked i at (Some after) (Some up) []
      → Stops base coll k (Marks base coll k job earlier) (IsToWrite base coll k job earlier) i (sight H' i) (errors.no_collection coll)
  gone_stops (Looked a from to page) at after up after_is up_is same here gone h = (
    subst (λ (x : Turn). MarksTurn x from to) (sym looks) (h.1 ∙ ap (λ (t : Tree). Some t) (after_is ∙ sym is.id_is), h.2 ∙ ap (λ (t : Tree). Some t) (up_is ∙ sym is.id_is)),
    h.3,
    inr ((λ w. absurd (subst IsWrite looks w)), subst (λ (l : List Entry). IsGone coll (replay base l)) (sym (saw H H' a same (h.0 ∙ here))) gone, refl),
  )
  gone_stops (Wrote a) at after up after_is up_is same here gone h = absurd h
  gone_stops (Lost a read found) at after up after_is up_is same here gone h = absurd h
  gone_stops (Faulted a low high) at after up after_is up_is same here gone h = absurd h

  pub look_marked : (at : ℕ) (after up : Tree) (o told : Moved) → after ≡ id → up ≡ id → H' ≡ H → at ≡ length H → IsGone coll (replay base H) → EndsMarked at (Some after) (Some up) (Refuses (errors.no_collection coll)) o → EndsAfter many.doing stand o told
      → Leads base coll k H' (Retrying many stand id) earlier told
  look_marked at after up (m.Goes i w) told after_is up_is same here gone marked t = absurd marked
  look_marked at after up (m.Ends i r) (m.Goes j w) after_is up_is same here gone marked t = absurd t
  look_marked at after up (m.Ends i r) (m.Ends j r') after_is up_is same here gone marked t = subst (λ (z : Item). Serves base coll k job (sight H' z ∷ earlier) r') (sym t.0)
      (stops i (errors.no_collection coll) r' (gone_stops i at after up after_is up_is same here gone marked.0) (t.1 (errors.no_collection coll) marked.1))
  look_marked at after up (m.Ends i r) m.NoMemory after_is up_is same here gone marked t = absurd t
  look_marked at after up m.NoMemory told after_is up_is same here gone marked t = absurd marked

  pub look_failed : (at low high : ℕ) (o told : Moved) → H' ≡ H ++ Failed k low high ∷ [] → at ≡ length H → EndsSo (Faulted at low high) (Refuses (errors.store_fault low high)) o → EndsAfter many.doing stand o told → Leads base coll k H' (Retrying many stand id) earlier told
  look_failed at low high (m.Goes i w) told longer here failed t = absurd failed
  look_failed at low high (m.Ends i r) (m.Goes j w) longer here failed t = absurd t
  look_failed at low high (m.Ends i r) (m.Ends j r') longer here failed t = subst (λ (z : Item). Serves base coll k job (sight H' z ∷ earlier) r') (sym (t.0 ∙ failed.0))
      (stops (Faulted at low high) (errors.store_fault low high) r' (failed_stops base coll k (Marks base coll k job earlier) (IsToWrite base coll k job earlier) H H' at low high longer here) (t.1 (errors.store_fault low high) failed.1))
  look_failed at low high (m.Ends i r) m.NoMemory longer here failed t = absurd t
  look_failed at low high m.NoMemory told longer here failed t = absurd failed
