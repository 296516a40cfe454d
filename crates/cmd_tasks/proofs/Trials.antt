-- An attempt of a command that takes many documents, on the first that waits.
use Rattle.std.proofs.Common.{◌≡◌, ◌≢◌, ◌⊎◌, ℕ, ◌<◌, ◌≤◌, List, [], ◌∷◌, ◌++◌, map, drop, reverse, length, false, Option, Some, Result, refl, sym, ap, ◌∙◌, subst, arith, inl, inr, ⊎_elim}
use Rattle.std.specs.List.{list_any}
use Rattle.std.proofs.lemmas.List.{reverse-append, length-reverse, reverse-reverse}
use Rattle.json_tree.specs.Tree.{Tree}
use Rattle.shred_cols.specs.Row.{Version}
use Rattle.col_keeper.specs.Tables.{Name, AreApart}
use Rattle.filter_tree.specs.Filters.{FilterTree}
use Rattle.filter_tree.specs.View.{filter_tree}
use Rattle.update_ops.specs.declared.fault.UpdateFault.{UpdateFault}
use Rattle.reply_env.specs.Messages as errors
use Rattle.reply_env.specs.Reply.{IsRefusalAfter}
use Rattle.reply_env.specs.declared.reply.ErrorItem.{ErrorItem}
use Rattle.reply_env.specs.declared.reply.Reply.{Reply}
use Rattle.reply_env.specs.declared.reply.Reply.TheVariants.{NoMemory}
use Rattle.reply_env.specs.declared.update_errors.Loss.{Loss}
use Rattle.store_core.specs.State.{State as Base, IsOld, version, number_at}
use Rattle.store_core.specs.Journal.{IsJournal, replay}
use Rattle.store_core.specs.declared.entry.Entry.{Entry}
use Rattle.store_core.specs.declared.entry.Entry.TheVariants.{Changed, Failed}
use Rattle.cmd_tasks.specs.Trace.{Sight, sight}
use Rattle.cmd_tasks.specs.Attempts.{IsWon, IsLost, comes_between}
use Rattle.cmd_tasks.specs.Served.{IsPartOf, Stops, Marks, IsToWrite, Serves, sights}
use Rattle.cmd_tasks.specs.Pages.{found_row}
use Rattle.cmd_tasks.specs.Placed.{IsPlaced}
use Rattle.cmd_tasks.specs.Looking.{Refuses}
use Rattle.cmd_tasks.specs.Doing.{Doing}
use Rattle.cmd_tasks.specs.Jobs.{Job}
use Rattle.cmd_tasks.specs.Taking.{Shown, Standing, settle, win, lose, Turn, turn, attempts}
use Rattle.cmd_tasks.specs.Turns.{IsOn, IsWrite, MarksTurn, Follows, so_far_of, Ends}
use Rattle.cmd_tasks.specs.Many.{doing_of, taking, put_for, IsWaiting, IsStanding, IsAttempted, IsRetried}
use Rattle.cmd_tasks.specs.Going.{IsCounted, GoesOnFrom}
use Rattle.cmd_tasks.specs.ManySteps.{LosesOne, lost_with, EndsAfter, TellsAfter}
use Rattle.cmd_tasks.specs.Moves.{IsUnderWay, Leads, EndsSo, EndsMarked, stands_at}
use Rattle.cmd_tasks.specs.declared.work.Many.{Many}
use Rattle.cmd_tasks.specs.declared.work.Stand.{Stand}
use Rattle.cmd_tasks.specs.declared.work.Attempt.{Attempt}
use Rattle.cmd_tasks.specs.declared.work.State.{State}
use Rattle.cmd_tasks.specs.declared.work.State.TheVariants.{Trying}
use Rattle.cmd_tasks.specs.declared.work.Moved.{Moved}
use Rattle.cmd_tasks.specs.declared.work.Moved.TheVariants as m
use Rattle.cmd_tasks.specs.declared.trace.Item.{Item}
use Rattle.cmd_tasks.specs.declared.trace.Item.TheVariants.{Wrote, Lost, Faulted}
use Rattle.cmd_tasks.proofs.Glances.{saw, saw_before, saw_entry, failed_stops}
use Rattle.cmd_tasks.proofs.Requests.{IsNoWrite}
use Rattle.cmd_tasks.proofs.Attempts.{GivenOnce, Touched}
use Rattle.cmd_tasks.proofs.Tries.{some_number, mark_stops}
use Rattle.cmd_tasks.proofs.Waiting.{IsStood, Waits, waits, is_waiting, waits_won, waits_quiet, waits_settled, unwritten}
use Rattle.cmd_tasks.proofs.Apart.{still_shown, others_wrote}
use Rattle.cmd_tasks.proofs.Kept.{settled_again, settled_put}
use Rattle.cmd_tasks.proofs.Turnings.{trying_turn, retrying_turn, lost_turn}
use Rattle.cmd_tasks.proofs.Accepted.{unput_accepts}
use Rattle.cmd_tasks.proofs.Following.{many_stopped, goes_leads}

module _ (base : Base) (coll : Name) (k : ℕ) (many : Many) (stand : Stand) (attempt : Attempt) (few : stand.matched < 20) (H : List Entry) (trace : List Item) (placed : IsPlaced k H trace) (lawful : IsJournal base H) (apart : AreApart base.collections)
    (way : IsUnderWay base coll k (Trying many stand attempt) (sights H trace)) where
  abbrev f : FilterTree
  f = filter_tree many.wanted.filter

  abbrev doing : Doing
  doing = doing_of many.doing

  abbrev job : Job
  job = taking many

  abbrev earlier : List Sight
  earlier = sights H trace

  -- where it stands before the attempt
  abbrev st : Standing
  st = stands_at base coll k many earlier

  abbrev is : IsAttempted doing stand attempt st
  is = way.1.1

  abbrev first : Shown
  first = is.first

  abbrev up : Option (Result Tree UpdateFault)
  up = put_for many

  tries : turn up doing st ≡ attempts first attempt.change
  tries = trying_turn up doing st first is.rest attempt.change is.first_time is.queue (let a = is.stands.matched in omega arith) is.change

  -- the first that waits, and the others
  before : Waits base coll st.from st.is_whole (first ∷ is.rest) earlier
  before = subst (λ (q : List Shown). Waits base coll st.from st.is_whole q earlier) is.queue (waits base coll st earlier way.1.0)

  stood : IsStood base coll earlier first
  stood = before.stood.0

  follows : (s : Sight) → IsWon base coll k first.x attempt.change s ⊎ IsLost base coll k first.look first.x s → IsPartOf base coll k job (s ∷ earlier)
  follows s attempted = (way.0.0, way.0.1, subst (λ (t : Turn). Follows base coll k f t s) (sym tries) attempted)

  -- ---- won

  abbrev won : Standing
  won = win (first ∷ is.rest) st

  won_standing : (new : Stand) → IsCounted stand attempt.id 1 new → IsStanding new won won.queue
  won_standing new has = record {
    from = has.from ∙ is.stands.from;
    is_whole = has.is_whole ∙ is.stands.is_whole;
    queue = ap (λ (q : List Version). map found_row (reverse q)) has.queue ∙ is.stands.queue;
    lost = ap (λ (l : List Loss). reverse l) has.lost;
    matched = let a = has.matched in let b = is.stands.matched in omega arith;
    modified = let a = has.modified in let b = is.stands.modified in omega arith;
    last = has.last ∙ ap (λ (i : Tree). Some i) (sym is.id);
    unput = is.stands.unput;
  }

  pub won_leads : GivenOnce → IsOld base → (H' : List Entry) (at tx : ℕ) (new : Stand) (o : Moved) → H' ≡ H ++ Changed k coll attempt.id attempt.change (Some attempt.read) tx ∷ [] → at ≡ length H → number_at (replay base H) coll attempt.id ≡ Some attempt.read
      → IsCounted stand attempt.id 1 new → ((z : Standing) → IsStanding new z z.queue → z.again ≡ false → GoesOnFrom many (Wrote at) (settle doing z) o) → Leads base coll k H' (Trying many stand attempt) earlier o
  won_leads once old H' at tx new o longer here there has goes = goes_leads base coll k many H' earlier (Wrote at) (follows s (inl is_won)) (ap (λ (z : Standing). z.again) stands ∙ settled_again doing won.queue won)
      (ap (λ (z : Standing). z.put) stands ∙ (settled_put doing won.queue won ∙ is.stands.unput))
      (subst (λ (z : Standing). IsWaiting base coll z (s ∷ earlier)) (sym stands) (is_waiting base coll (settle doing won) (s ∷ earlier) (waits_settled base coll doing won.queue won (s ∷ earlier) (waits_won base coll st.from st.is_whole first is.rest s earlier k attempt.change (Some first.x.tx) tx entry_is before))))
      (Trying many stand attempt) o refl (subst (λ (z : Standing). GoesOnFrom many (Wrote at) z o) (sym stands) (goes won (won_standing new has) refl))
    where
      e : Entry
      e = Changed k coll attempt.id attempt.change (Some attempt.read) tx

      s : Sight
      s = sight H' (Wrote at)

      past : s.past ≡ H
      past = saw_before H H' e at longer here

      v : (v : Version) × (version (replay base H) coll first.x.id ≡ Some v) × (v.tx ≡ attempt.read)
      v = some_number (version (replay base H) coll first.x.id) attempt.read (subst (λ (i : Tree). number_at (replay base H) coll i ≡ Some attempt.read) (sym is.id) there)

      entry_is : s.entry ≡ Some (Changed k coll first.x.id attempt.change (Some first.x.tx) tx)
      entry_is = saw_entry H H' e at longer here ∙ (λ j. Some (Changed k coll (sym is.id j) attempt.change (Some (sym is.read j)) tx))

      is_won : IsWon base coll k first.x attempt.change s
      is_won = record {
        stands = ap (λ (l : List Entry). version (replay base l) coll first.x.id) past ∙ (v.1 ∙ ap (λ (z : Version). Some z) (still_shown base coll k H lawful apart once old trace placed first stood v.0 v.1 (v.2 ∙ sym is.read)));
        wrote = (ap Wrote (here ∙ sym (ap length past)), (tx, entry_is));
      }

      stands : stands_at base coll k many (s ∷ earlier) ≡ settle doing won
      stands = ap (λ (q : List Shown). settle doing (win q st)) is.queue

  -- ---- lost

  pub loses_leads : Touched → (H' : List Entry) (at : ℕ) (found : Option ℕ) (o : Moved) → H' ≡ H → at ≡ length H → found ≢ Some attempt.read → number_at (replay base H) coll attempt.id ≡ found
      → LosesOne at many stand attempt.id (record { read = attempt.read; found = found }) o → Leads base coll k H' (Trying many stand attempt) earlier o
  loses_leads touched H' at found o same here other there t = go o t
    where
      loss : Loss
      loss = record { read = attempt.read; found = found }

      s : Sight
      s = sight H' (Lost at attempt.read found)

      past : s.past ≡ H
      past = saw H H' at same here

      number_is : number_at (replay base H) coll first.x.id ≡ found
      number_is = subst (λ (i : Tree). number_at (replay base H) coll i ≡ found) (sym is.id) there

      is_lost : IsLost base coll k first.look first.x s
      is_lost = record {
        found = found;
        item = λ j. Lost ((here ∙ sym (ap length past)) j) (sym is.read j) found;
        stands = ap (λ (l : List Entry). number_at (replay base l) coll first.x.id) past ∙ number_is;
        other = λ e. other (e ∙ ap (λ (n : ℕ). Some n) is.read);
        between = ap (λ (l : List Entry). list_any (comes_between coll k first.x.id) (drop (length first.look.past) l)) past
            ∙ others_wrote base coll k H lawful apart touched trace placed first stood (unwritten base coll st.from st.is_whole first is.rest earlier before) (λ e. other (sym number_is ∙ (e ∙ ap (λ (n : ℕ). Some n) is.read)));
      }

      part : IsPartOf base coll k job (s ∷ earlier)
      part = follows s (inr is_lost)

      lost_more : reverse (lost_with stand loss) ≡ loss ∷ st.losses
      lost_more = reverse-append stand.lost.items (loss ∷ []) ∙ ap (λ (z : List Loss). loss ∷ z) is.stands.lost

      as_lost : lost_with stand loss ≡ reverse (loss ∷ st.losses)
      as_lost = sym (reverse-reverse (lost_with stand loss)) ∙ ap (λ (l : List Loss). reverse l) lost_more

      size : length (lost_with stand loss) ≡ length (loss ∷ st.losses)
      size = sym (length-reverse (lost_with stand loss)) ∙ ap length lost_more

      after : Standing
      after = lose loss (first ∷ is.rest) st

      stands : stands_at base coll k many (s ∷ earlier) ≡ after
      stands = ap (λ (q : List Shown). lose loss q st) is.queue

      cut : (r : Reply) → r ≡ NoMemory stand.modified → Serves base coll k job (s ∷ earlier) r
      cut r e = inr (inr (
        inl part,
        e ∙ ap NoMemory (is.stands.modified ∙ (sym (ap (λ (z : Standing). z.modified) stands) ∙ sym (unput_accepts base coll k f doing many.page.value (s ∷ earlier) part (ap (λ (z : Standing). z.put) stands ∙ is.stands.unput)))),
      ))

      go : (o' : Moved) → LosesOne at many stand attempt.id loss o' → Leads base coll k H' (Trying many stand attempt) earlier o'
      go (m.Goes i w) t' = subst (λ (z : Item × State). Leads base coll k H' (Trying many stand attempt) earlier (m.Goes z.0 z.1)) (λ j. (sym t'.3 j, sym t'.4 j)) (
        (part, subst IsOn (sym (ap (turn up doing) stands ∙ retrying_turn up doing after first is.rest refl is.queue (let a = size in let b = ap length t'.1 in let d = t'.2 in omega arith))) tt),
        subst (λ (z : Standing). IsWaiting base coll z (s ∷ earlier) × IsRetried (record stand { lost = t'.0 }) attempt.id z) (sym stands) (
          is_waiting base coll after (s ∷ earlier) (waits_quiet base coll st.from st.is_whole st.queue s earlier refl (waits base coll st earlier way.1.0)),
          record {
            first = first;
            rest = is.rest;
            queue = is.queue;
            again = refl;
            id_is = is.id;
            stands = record {
              from = is.stands.from;
              is_whole = is.stands.is_whole;
              queue = is.stands.queue;
              lost = ap (λ (l : List Loss). reverse l) t'.1 ∙ lost_more;
              matched = is.stands.matched;
              modified = is.stands.modified;
              last = is.stands.last;
              unput = is.stands.unput;
            };
          },
        ),
      )
      go (m.Ends i r) t' = subst (λ (z : Item). Leads base coll k H' (Trying many stand attempt) earlier (m.Ends z r)) (sym t'.0) (⊎_elim
          (λ (four : (4 ≤ length (lost_with stand loss)) × TellsAfter many.doing stand (errors.lost_writes (lost_with stand loss)) r). ⊎_elim
          (λ (told : IsRefusalAfter (so_far_of doing after) (errors.lost_writes (lost_with stand loss)) r). inl (
            part,
            subst (λ (z : Standing). Ends doing many.page.value z (turn up doing z) r) (sym stands)
                (subst (λ (x : Turn). Ends doing many.page.value after x r) (sym (lost_turn up doing after first is.rest refl is.queue (let a = size in let b = four.0 in omega arith))) (subst (λ (l : List Loss). IsRefusalAfter (so_far_of doing after) (errors.lost_writes l) r) as_lost told)),
          ))
          (λ (e : r ≡ NoMemory after.modified). cut r (e ∙ ap NoMemory (sym is.stands.modified)))
          (four.1 after is.stands.matched is.stands.modified))
          (λ (e : r ≡ NoMemory stand.modified). cut r e)
          t'.1)
      go m.NoMemory t' = absurd t'

  -- ---- it stops there

  stops : (H' : List Entry) (i : Item) (error : ErrorItem) (r : Reply) → Stops base coll k (Marks base coll k job earlier) (IsToWrite base coll k job earlier) i (sight H' i) error → TellsAfter many.doing stand error r
      → Serves base coll k job (sight H' i ∷ earlier) r
  stops H' i error r stop told = many_stopped base coll k f doing many.page.value earlier (sight H' i) error r way.0 stop is.stands.unput (told st is.stands.matched is.stands.modified)

  pub try_marked : (H' : List Entry) (at : ℕ) (after to : Tree) (error : ErrorItem) (o told : Moved) → after ≡ attempt.id → to ≡ attempt.id → H' ≡ H → at ≡ length H → IsNoWrite coll (replay base H) error
      → EndsMarked at (Some after) (Some to) (Refuses error) o → EndsAfter many.doing stand o told → Leads base coll k H' (Trying many stand attempt) earlier told
  try_marked H' at after to error (m.Goes i w) told after_is to_is same here cause marked t = absurd marked
  try_marked H' at after to error (m.Ends i r) (m.Goes j w) after_is to_is same here cause marked t = absurd t
  try_marked H' at after to error (m.Ends i r) (m.Ends j r') after_is to_is same here cause marked t = subst (λ (z : Item). Serves base coll k job (sight H' z ∷ earlier) r') (sym t.0)
      (stops H' i error r' (mark_stops base coll k (Marks base coll k job earlier) (IsToWrite base coll k job earlier) H H' at (Some after) (Some to) i error same here marked.0
      (subst (λ (x : Turn). MarksTurn x (Some after) (Some to)) (sym tries) (ap (λ (t : Tree). Some t) (after_is ∙ sym is.id), ap (λ (t : Tree). Some t) (to_is ∙ sym is.id)))
      (subst IsWrite (sym tries) tt) cause) (t.1 error marked.1))
  try_marked H' at after to error (m.Ends i r) m.NoMemory after_is to_is same here cause marked t = absurd t
  try_marked H' at after to error m.NoMemory told after_is to_is same here cause marked t = absurd marked

  pub try_failed : (H' : List Entry) (at before_count count : ℕ) (o told : Moved) → H' ≡ H ++ Failed k before_count count ∷ [] → at ≡ length H → EndsSo (Faulted at before_count count) (Refuses (errors.store_fault before_count count)) o
      → EndsAfter many.doing stand o told → Leads base coll k H' (Trying many stand attempt) earlier told
  try_failed H' at low high (m.Goes i w) told longer here failed t = absurd failed
  try_failed H' at low high (m.Ends i r) (m.Goes j w) longer here failed t = absurd t
  try_failed H' at low high (m.Ends i r) (m.Ends j r') longer here failed t = subst (λ (z : Item). Serves base coll k job (sight H' z ∷ earlier) r') (sym (t.0 ∙ failed.0))
      (stops H' (Faulted at low high) (errors.store_fault low high) r' (failed_stops base coll k (Marks base coll k job earlier) (IsToWrite base coll k job earlier) H H' at low high longer here) (t.1 (errors.store_fault low high) failed.1))
  try_failed H' at low high (m.Ends i r) m.NoMemory longer here failed t = absurd t
  try_failed H' at low high m.NoMemory told longer here failed t = absurd failed
