-- How a command that takes many documents goes on behind an item, or stops there.
use Rattle.std.proofs.Common.{◌≡◌, ◌⊎◌, ℕ, List, ◌∷◌, false, Option, Some, sym, ap, ◌∙◌, subst, inl, inr, ⊎_elim}
use Rattle.std.specs.Prelude.{IfSome}
use Rattle.json_tree.specs.Tree.{Tree}
use Rattle.col_keeper.specs.Tables.{Name}
use Rattle.filter_tree.specs.Filters.{FilterTree}
use Rattle.filter_tree.specs.View.{filter_tree}
use Rattle.view_sort.specs.declared.page.PageState.{PageState}
use Rattle.reply_env.specs.Reply.{IsRefusalAfter}
use Rattle.reply_env.specs.declared.reply.ErrorItem.{ErrorItem}
use Rattle.reply_env.specs.declared.reply.Reply.{Reply}
use Rattle.reply_env.specs.declared.reply.Reply.TheVariants.{NoMemory}
use Rattle.store_core.specs.State.{State as Base}
use Rattle.store_core.specs.declared.entry.Entry.{Entry}
use Rattle.cmd_tasks.specs.Trace.{Sight, sight}
use Rattle.cmd_tasks.specs.Jobs.{Job, changes_many}
use Rattle.cmd_tasks.specs.Served.{IsPartOf, Marks, IsToWrite, Stops, Serves, many_standing}
use Rattle.cmd_tasks.specs.Doing.{Doing}
use Rattle.cmd_tasks.specs.Taking.{Standing, not_put, turn}
use Rattle.cmd_tasks.specs.Turns.{IsOn, so_far_of, Ends}
use Rattle.cmd_tasks.specs.Many.{doing_of, taking, put_for, IsWaiting}
use Rattle.cmd_tasks.specs.Going.{IsStateAt, GoesOnFrom, RefusesAfter}
use Rattle.cmd_tasks.specs.Moves.{asked, IsBegun, IsUnderWay, Leads, stands_at}
use Rattle.cmd_tasks.specs.declared.work.Many.{Many}
use Rattle.cmd_tasks.specs.declared.work.State.{State}
use Rattle.cmd_tasks.specs.declared.work.State.TheVariants.{Inserting, Selecting, Listing, Counting, Choosing, Changing, Putting, Paging, Trying, Retrying, PuttingMany, Creating, Dropping, Naming, Unready, Done}
use Rattle.cmd_tasks.specs.declared.work.Moved.{Moved}
use Rattle.cmd_tasks.specs.declared.work.Moved.TheVariants as m
use Rattle.cmd_tasks.specs.declared.trace.Item.{Item}
use Rattle.cmd_tasks.proofs.Requests.{stop_serves}
use Rattle.cmd_tasks.proofs.Accepted.{unput_accepts}
use Rattle.cmd_tasks.proofs.Turnings.{paging_turn, trying_turn}

-- the command stops at an item, and tells what was written before, or memory was wanting for that
module _ (base : Base) (coll : Name) (k : ℕ) (f : FilterTree) (doing : Doing) (page : Option PageState) where
  abbrev now_at : List Sight → Standing
  now_at sights = many_standing base coll k f doing page sights

  pub many_stopped : (earlier : List Sight) (s : Sight) (error : ErrorItem) (reply : Reply) → IsBegun base coll k (changes_many f doing page) earlier
      → Stops base coll k (Marks base coll k (changes_many f doing page) earlier) (IsToWrite base coll k (changes_many f doing page) earlier) s.item s error → (now_at earlier).put ≡ not_put → RefusesAfter doing (now_at earlier) error reply
      → Serves base coll k (changes_many f doing page) (s ∷ earlier) reply
  many_stopped earlier s error reply begun stops unput refuses = stop_serves base coll k (changes_many f doing page) earlier s error reply begun stops (⊎_elim
      (λ (r : IsRefusalAfter (so_far_of doing (now_at earlier)) error reply). inl r)
      (λ (e : reply ≡ NoMemory (now_at earlier).modified). inr (e ∙ ap NoMemory (sym (unput_accepts base coll k f doing page earlier begun.0 unput))))
      refuses)

-- ---- it goes on behind an item

module _ (base : Base) (coll : Name) (k : ℕ) (many : Many) (H' : List Entry) (earlier : List Sight) (item : Item) where
  abbrev job : Job
  job = taking many

  abbrev doing : Doing
  doing = doing_of many.doing

  abbrev sights : List Sight
  sights = sight H' item ∷ earlier

  abbrev st : Standing
  st = stands_at base coll k many sights

  module _ (part : IsPartOf base coll k job sights) (again : st.again ≡ false) (unput : st.put ≡ not_put) (waiting : IsWaiting base coll st sights) where
    -- a state goes on with it
    on_with : (i : Item) (w : State) → i ≡ item → IsStateAt many st w → IsUnderWay base coll k w (sight H' i ∷ earlier)
    on_with i (Inserting insertions) is h = absurd h
    on_with i (Selecting search p shows) is h = absurd h
    on_with i (Listing search p p') is h = absurd h
    on_with i (Counting w last n) is h = absurd h
    on_with i (Choosing one p) is h = absurd h
    on_with i (Changing one attempt reply) is h = absurd h
    on_with i (Putting one doc reply) is h = absurd h
    on_with i (Paging m' stand) is h = subst (λ (z : Item × Many). IsUnderWay base coll k (Paging z.1 stand) (sight H' z.0 ∷ earlier)) (λ j. (sym is j, sym h.0 j)) (
      (part, subst IsOn (sym (paging_turn (put_for many) doing st again h.1 h.2)) tt),
      (waiting, h.1, again, h.3),
    )
    on_with i (Trying m' stand attempt) is h = subst (λ (z : Item × Many). IsUnderWay base coll k (Trying z.1 stand attempt) (sight H' z.0 ∷ earlier)) (λ j. (sym is j, sym h.0 j)) (
      (part, subst IsOn (sym (trying_turn (put_for many) doing st h.2.first h.2.rest attempt.change h.2.first_time h.2.queue h.1 h.2.change)) tt),
      (waiting, h.2),
    )
    on_with i (Retrying m' stand id) is h = absurd h
    on_with i (PuttingMany m' stand doc reply) is h = subst (λ (z : Item × Many). IsUnderWay base coll k (PuttingMany z.1 stand doc reply) (sight H' z.0 ∷ earlier)) (λ j. (sym is j, sym h.0 j)) (
      (part, subst IsOn (sym h.1) tt),
      record { is = h.1; none_written = h.4; tells = h.2 },
    )
    on_with i Creating is h = absurd h
    on_with i Dropping is h = absurd h
    on_with i Naming is h = absurd h
    on_with i (Unready command moment ids) is h = absurd h
    on_with i (Done reply) is h = absurd h

    ends_with : (i : Item) (reply : Reply) → i ≡ item → Ends doing many.page.value st (turn (put_for many) doing st) reply ⊎ (reply ≡ NoMemory st.modified) → Serves base coll k job (sight H' i ∷ earlier) reply
    ends_with i reply is h = subst (λ (z : Item). Serves base coll k job (sight H' z ∷ earlier) reply) (sym is) (⊎_elim
        (λ (e : Ends doing many.page.value st (turn (put_for many) doing st) reply). inl (part, e))
        (λ (e : reply ≡ NoMemory st.modified). inr (inr (inl part, e ∙ ap NoMemory (sym (unput_accepts base coll k (filter_tree many.wanted.filter) doing many.page.value sights part unput)))))
        h)

    pub goes_leads : (w : State) (o : Moved) → asked w ≡ Some job → GoesOnFrom many item st o → Leads base coll k H' w earlier o
    goes_leads w (m.Goes i w') is h = on_with i w' h.0 h.1
    goes_leads w (m.Ends i reply) is h = subst (λ (z : Option Job). IfSome z (λ x. Serves base coll k x (sight H' i ∷ earlier) reply)) (sym is) (ends_with i reply h.0 h.1)
    goes_leads w m.NoMemory is h = absurd h
