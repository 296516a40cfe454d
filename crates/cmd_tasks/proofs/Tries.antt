-- Attempts on the document that a round has chosen, and what follows a lost one.
use Rattle.std.proofs.Common.{◌≡◌, ◌≢◌, ℕ, suc, ◌+◌, ◌-◌, ◌<◌, ◌≤◌, List, [], ◌∷◌, ◌++◌, take, drop, reverse, length, false, Option, Some, None, refl, sym, ap, ◌∙◌, subst, arith, inl, inr, ⊎_elim, ◌⊎◌, length-append}
use Rattle.std.specs.Option.{option_map}
use Rattle.std.specs.List.{list_any}
use Rattle.std.proofs.lemmas.List.{reverse-append, length-reverse, reverse-reverse}
use Rattle.json_tree.specs.Tree.{Tree}
use Rattle.shred_cols.specs.Row.{Version}
use Rattle.col_keeper.specs.Tables.{Name, AreApart}
use Rattle.filter_tree.specs.Filters.{FilterTree}
use Rattle.filter_tree.specs.View.{filter_tree}
use Rattle.update_ops.specs.Apply.{apply}
use Rattle.reply_env.specs.Messages as errors
use Rattle.reply_env.specs.Reply.{IsRefusal}
use Rattle.reply_env.specs.declared.reply.ErrorItem.{ErrorItem}
use Rattle.reply_env.specs.declared.reply.Reply.{Reply}
use Rattle.reply_env.specs.declared.reply.Reply.TheVariants.{NoMemory}
use Rattle.reply_env.specs.declared.update_errors.Loss.{Loss}
use Rattle.store_core.specs.State.{State as Base, IsOld, version, number_at}
use Rattle.store_core.specs.Journal.{IsJournal, IsMadeOfRead, replay}
use Rattle.store_core.specs.declared.entry.Change.{Change}
use Rattle.store_core.specs.declared.entry.Change.TheVariants.{Insert, Replace, Update, Delete}
use Rattle.store_core.specs.declared.entry.Entry.{Entry}
use Rattle.store_core.specs.declared.entry.Entry.TheVariants.{Changed, Failed}
use Rattle.view_sort.specs.Sort.{SortKeys}
use Rattle.cmd_tasks.specs.Trace.{Sight, sight}
use Rattle.cmd_tasks.specs.Attempts.{IsWon, IsLost, comes_between}
use Rattle.cmd_tasks.specs.Searches.{stored}
use Rattle.cmd_tasks.specs.Doing.{Doing}
use Rattle.cmd_tasks.specs.Jobs.{Form}
use Rattle.cmd_tasks.specs.Served.{IsPartOf, AnswersRounds, AnswersOne, Serves, Stops, Marks, IsToWrite, chosen, insertion, put_last, losses, accepted, sights}
use Rattle.cmd_tasks.specs.Placed.{IsPlaced}
use Rattle.cmd_tasks.specs.Rank.{rank_of}
use Rattle.cmd_tasks.specs.Looking.{Made, IsLooked, AreShort, Refuses}
use Rattle.cmd_tasks.specs.Many.{doing_of, form_of}
use Rattle.cmd_tasks.specs.Ones.{LosesTo, with_loss}
use Rattle.cmd_tasks.specs.Moves.{changing, tries_rank, IsOne, Steps, Leads, IsUnderWay, IsChosen, Fits, EndsSo, EndsMarked}
use Rattle.cmd_tasks.specs.declared.work.Attempt.{Attempt}
use Rattle.cmd_tasks.specs.declared.work.One.{One}
use Rattle.cmd_tasks.specs.declared.work.State.{State}
use Rattle.cmd_tasks.specs.declared.work.State.TheVariants.{Inserting, Selecting, Listing, Counting, Choosing, Changing, Putting, Paging, Trying, Retrying, PuttingMany, Creating, Dropping, Naming, Unready, Done}
use Rattle.cmd_tasks.specs.declared.work.Moved.{Moved}
use Rattle.cmd_tasks.specs.declared.work.Moved.TheVariants as m
use Rattle.cmd_tasks.specs.declared.trace.Item.{Item}
use Rattle.cmd_tasks.specs.declared.trace.Item.TheVariants.{Looked, Wrote, Lost, Faulted}
use Rattle.cmd_tasks.proofs.Glances.{saw, saw_before, saw_entry, lost_here}
use Rattle.cmd_tasks.proofs.Requests.{IsNoWrite, marked_so, stopped_serves, failed_serves}
use Rattle.cmd_tasks.proofs.Fresh.{match_some, match_none, some_is, fresh_searching, none_first}
use Rattle.cmd_tasks.proofs.Attempts.{same_some, GivenOnce, Touched}
use Rattle.cmd_tasks.proofs.Lookback.{still_same, came_between}
use Rattle.cmd_tasks.proofs.Misses.{unput_where_chosen}
use Rattle.cmd_tasks.proofs.Fitting.{Makes, makes_so, fits_attempt}

-- ---- what a step is, told or not

pub falls : (n m : ℕ) (last : Option Tree) → last ≡ None → m ≡ n + 1 → m < 4 → tries_rank (4 - m) + (rank_of last + 1) < tries_rank (4 - n)
falls n m last first e l = let s : 4 - n ≡ suc (4 - m) = omega arith in let r : tries_rank (4 - n) ≡ tries_rank (4 - m) + (rank_of None + 2) = ap tries_rank s in let a = ap rank_of first in omega arith

pub loses_steps : (k low high : ℕ) (H H' : List Entry) (one : One) (attempt : Attempt) (reply : Reply) (at : ℕ) (found : Option ℕ) (o : Moved) → IsOne one → H' ≡ H → at ≡ length H → LosesTo at attempt.read found one o → Steps k low high (Changing one attempt reply) H H' o
loses_steps k low high H H' one attempt reply at found (m.Goes i w) is_one same here t = subst (λ (z : Item × State). Steps k low high (Changing one attempt reply) H H' (m.Goes z.0 z.1)) (λ j. (sym t.3 j, sym t.4.2 j)) (
  lost_here k low high H H' at attempt.read found same here,
  refl,
  (record { wanted = is_one.wanted; one_is = is_one.one_is; few = t.2 }, (let n = t.4.1.shown in omega arith), subst AreShort (sym t.4.1.kept) tt),
  falls (length one.lost.items) (length t.0.items) t.4.0.last t.4.1.last (ap length t.1 ∙ length-append one.lost.items (record { read = attempt.read; found = found } ∷ [])) t.2,
)
loses_steps k low high H H' one attempt reply at found (m.Ends i r) is_one same here t = subst (λ (z : Item). Made k low high H H' z) (sym t.0) (lost_here k low high H H' at attempt.read found same here)
loses_steps k low high H H' one attempt reply at found m.NoMemory is_one same here t = absurd t

-- ---- what the attempt means

pub some_number : (o : Option Version) (tx : ℕ) → option_map (λ (v : Version). v.tx) o ≡ Some tx → (v : Version) × (o ≡ Some v) × (v.tx ≡ tx)
some_number None tx e = cc
some_number (Some v) tx e = (v, refl, same_some v.tx tx e)

pub mark_stops : (base : Base) (coll : Name) (k : ℕ) (P : Option Tree → Option Tree → Type 0) (W : Type 0) (H H' : List Entry) (at : ℕ) (after up : Option Tree) (i : Item) (error : ErrorItem) → H' ≡ H → at ≡ length H → IsLooked i at after up [] → P after up → W
    → IsNoWrite coll (replay base H) error → Stops base coll k P W i (sight H' i) error
mark_stops base coll k P W H H' at after up (Looked a from to pairs) error same here is marks writes cause =
    let past : take a H' ≡ H = saw H H' a same (is.0 ∙ here) in
    let back : replay base H ≡ replay base (take a H') = ap (replay base) (sym past) in (
      subst (λ (z : Option Tree × Option Tree). P z.0 z.1) (λ j. (sym is.1 j, sym is.2 j)) marks,
      is.3,
      marked_so coll k base W (sight H' (Looked a from to pairs)) error writes (subst (λ (s : Base). IsNoWrite coll s error) back cause),
    )
mark_stops base coll k P W H H' at after up (Wrote a) error same here is marks writes cause = absurd is
mark_stops base coll k P W H H' at after up (Lost a read f) error same here is marks writes cause = absurd is
mark_stops base coll k P W H H' at after up (Faulted a b c) error same here is marks writes cause = absurd is

module _ (base : Base) (coll : Name) (k : ℕ) (one : One) where
  abbrev pub f : FilterTree
  f = filter_tree one.search.wanted.filter

  abbrev sort : SortKeys
  sort = one.search.sort

  abbrev doing : Doing
  doing = doing_of one.doing

  abbrev form : Form
  form = form_of one.form

  module _ (attempt : Attempt) (reply : Reply) (H : List Entry) (trace : List Item) (placed : IsPlaced k H trace) (lawful : IsJournal base H) (apart : AreApart base.collections) (way : IsUnderWay base coll k (Changing one attempt reply) (sights H trace)) where
    abbrev pub kept : IsChosen base coll k one attempt reply (sights H trace)
    kept = way.1

    abbrev pub earlier : List Sight
    earlier = sights H trace

    -- what the keeper holds under the number that was read is the document of the look
    same_document : GivenOnce → IsOld base → (v : Version) → version (replay base H) coll attempt.id ≡ Some v → v.tx ≡ attempt.read → v ≡ stored kept.x
    same_document once old v there number = still_same base coll k f H trace placed kept.x kept.seen once lawful apart old v (ap (λ (i : Tree). version (replay base H) coll i) kept.same_id ∙ there) (number ∙ sym kept.number)

    -- so the attempt may be made
    fits_when : GivenOnce → IsOld base → (o : Option Version) → version (replay base H) coll attempt.id ≡ o → (c : Change) → Makes c kept.x.doc → IsMadeOfRead c (Some attempt.read) o
    fits_when once old o there (Insert new) makes = tt
    fits_when once old o there (Replace new) makes = tt
    fits_when once old None there (Update u moment new) makes = tt
    fits_when once old (Some v) there (Update u moment new) makes = λ is. ap (λ (z : Version). apply u z.doc moment false) (same_document once old v there (sym (same_some attempt.read v.tx is))) ∙ makes
    fits_when once old o there Delete makes = tt

    pub fits_now : GivenOnce → IsOld base → IsMadeOfRead attempt.change (Some attempt.read) (version (replay base H) coll attempt.id)
    fits_now once old = fits_when once old (version (replay base H) coll attempt.id) refl attempt.change (makes_so doing kept.x.doc attempt.change kept.change)

    chooses : (s : Sight) → (IsWon base coll k kept.x attempt.change s ⊎ IsLost base coll k kept.seen.look kept.x s) → IsPartOf base coll k (changing one) (s ∷ earlier)
    chooses s attempted = (way.0.0, way.0.1, match_some (chosen base coll k f sort earlier) kept.x _ _ kept.is (attempt.change, kept.change, (kept.seen.look, kept.seen.among, kept.seen.shows, attempted)))

    -- no insertion came next
    unput : insertion base coll k f sort doing earlier ≡ None
    unput = unput_where_chosen base coll k f sort doing earlier kept.x kept.is

    answers : (s : Sight) (r : Reply) → AnswersRounds base coll k f sort doing form (s ∷ earlier) r → AnswersOne base coll k f sort doing form (s ∷ earlier) r
    answers s r told = match_none (put_last base coll k f sort doing (s ∷ earlier)) _ _ unput told

    pub change_written : GivenOnce → IsOld base → (H' : List Entry) (at tx : ℕ) → H' ≡ H ++ Changed k coll attempt.id attempt.change (Some attempt.read) tx ∷ [] → at ≡ length H
        → number_at (replay base H) coll attempt.id ≡ Some attempt.read → Serves base coll k (changing one) (sight H' (Wrote at) ∷ earlier) reply
    change_written once old H' at tx longer here stands =
        let e : Entry = Changed k coll attempt.id attempt.change (Some attempt.read) tx in
        let past = saw_before H H' e at longer here in
        let v = some_number (version (replay base H) coll attempt.id) attempt.read stands in
        let won : IsWon base coll k kept.x attempt.change (sight H' (Wrote at)) = record {
          stands = ap (λ (l : List Entry). version (replay base l) coll kept.x.id) past ∙ (ap (λ (i : Tree). version (replay base H) coll i) kept.same_id ∙ (v.1 ∙ ap (λ (z : Version). Some z) (same_document once old v.0 v.1 v.2)));
          wrote = (ap Wrote (here ∙ sym (ap length past)), (tx, saw_entry H H' e at longer here ∙ (λ j. Some (Changed k coll (sym kept.same_id j) attempt.change (Some (sym kept.number j)) tx))));
        } in
        inl (chooses (sight H' (Wrote at)) (inl won), answers (sight H' (Wrote at)) reply (inl (refl, match_some (chosen base coll k f sort earlier) kept.x _ _ kept.is (attempt.change, kept.change, kept.tells))))

    pub loses_leads : Touched → (H' : List Entry) (at : ℕ) (found : Option ℕ) (o : Moved) → H' ≡ H → at ≡ length H → found ≢ Some attempt.read → number_at (replay base H) coll attempt.id ≡ found → LosesTo at attempt.read found one o
        → Leads base coll k H' (Changing one attempt reply) earlier o
    loses_leads touched H' at found o same here other stands t = go o t
      where
        s : Sight
        s = sight H' (Lost at attempt.read found)

        past : s.past ≡ H
        past = saw H H' at same here

        there : number_at (replay base H) coll kept.x.id ≡ found
        there = subst (λ (i : Tree). number_at (replay base H) coll i ≡ found) (sym kept.same_id) stands

        is_lost : IsLost base coll k kept.seen.look kept.x s
        is_lost = record {
          found = found;
          item = λ j. Lost ((here ∙ sym (ap length past)) j) (sym kept.number j) found;
          stands = ap (λ (l : List Entry). number_at (replay base l) coll kept.x.id) past ∙ there;
          other = λ e. other (e ∙ ap (λ (n : ℕ). Some n) kept.number);
          between = ap (λ (l : List Entry). list_any (comes_between coll k kept.x.id) (drop (length kept.seen.look.past) l)) past ∙ came_between base coll k f H trace placed kept.x kept.seen touched lawful apart (λ e. other (sym there ∙ (e ∙ ap (λ (n : ℕ). Some n) kept.number)));
        }

        part : IsPartOf base coll k (changing one) (s ∷ earlier)
        part = chooses s (inr is_lost)

        still_none : accepted (s ∷ earlier) ≡ 0
        still_none = let a = way.0.1.0 in omega arith

        lost_more : reverse (with_loss one attempt.read found) ≡ losses (s ∷ earlier)
        lost_more = reverse-append one.lost.items (record { read = attempt.read; found = found } ∷ []) ∙ ap (λ (z : List Loss). record { read = attempt.read; found = found } ∷ z) kept.lost_are

        size : length (with_loss one attempt.read found) ≡ length (losses (s ∷ earlier))
        size = sym (length-reverse (with_loss one attempt.read found)) ∙ ap length lost_more

        in_order : with_loss one attempt.read found ≡ reverse (losses (s ∷ earlier))
        in_order = sym (reverse-reverse (with_loss one attempt.read found)) ∙ ap reverse lost_more

        cut : (r : Reply) → r ≡ NoMemory 0 → Serves base coll k (changing one) (s ∷ earlier) r
        cut r e = inr (inr (inl part, e ∙ ap NoMemory (sym still_none)))

        go : (o' : Moved) → LosesTo at attempt.read found one o' → Leads base coll k H' (Changing one attempt reply) earlier o'
        go (m.Goes i w) t' = subst (λ (z : Item × State). Leads base coll k H' (Changing one attempt reply) earlier (m.Goes z.0 z.1)) (λ j. (sym t'.3 j, sym t'.4.2 j)) (
          (part, (still_none, (let a = size in let b = ap length t'.1 in let c = t'.2 in omega arith), unput, match_none (chosen base coll k f sort (s ∷ earlier)) _ _ (none_first sort) (inl tt))),
          record { searching = fresh_searching base coll None one.search t'.4.0 t'.4.1; none_yet = none_first sort; goes_on = tt; lost_are = ap reverse t'.1 ∙ lost_more },
        )
        go (m.Ends i r) t' = subst (λ (z : Item). Leads base coll k H' (Changing one attempt reply) earlier (m.Ends z r)) (sym t'.0) (⊎_elim
            (λ (four : (4 ≤ length (with_loss one attempt.read found)) × Refuses (errors.lost_writes (with_loss one attempt.read found)) r). ⊎_elim
            (λ (told : IsRefusal (errors.lost_writes (with_loss one attempt.read found)) r). inl (part, answers s r (inr (inl ((let a = size in let b = four.0 in let c = way.0.1.1 in omega arith), subst (λ (l : List Loss). IsRefusal (errors.lost_writes l) r) in_order told)))))
            (λ (e : r ≡ NoMemory 0). cut r e) four.1)
            (λ (e : r ≡ NoMemory 0). cut r e) t'.1)
        go m.NoMemory t' = absurd t'

    pub change_marked : (H' : List Entry) (at : ℕ) (after up : Tree) (error : ErrorItem) (o : Moved) → after ≡ attempt.id → up ≡ attempt.id → H' ≡ H → at ≡ length H
        → IsNoWrite coll (replay base H) error
        → EndsMarked at (Some after) (Some up) (Refuses error) o → Leads base coll k H' (Changing one attempt reply) earlier o
    change_marked H' at after up error (m.Goes i w) after_is up_is same here cause is = absurd is
    change_marked H' at after up error (m.Ends i r) after_is up_is same here cause is = stopped_serves base coll k (changing one) tt earlier (sight H' i) error r way.0
        (mark_stops base coll k (Marks base coll k (changing one) earlier) (IsToWrite base coll k (changing one) earlier) H H' at (Some after) (Some up) i error same here is.0
        (match_some (chosen base coll k f sort earlier) kept.x _ _ kept.is (ap (λ (t : Tree). Some t) (after_is ∙ sym kept.same_id), ap (λ (t : Tree). Some t) (up_is ∙ sym kept.same_id)))
        (inl (some_is (chosen base coll k f sort earlier) kept.x kept.is)) cause) is.1
    change_marked H' at after up error m.NoMemory after_is up_is same here cause is = absurd is

    pub change_failed : (H' : List Entry) (at before count : ℕ) (o : Moved) → H' ≡ H ++ Failed k before count ∷ [] → at ≡ length H
        → EndsSo (Faulted at before count) (Refuses (errors.store_fault before count)) o → Leads base coll k H' (Changing one attempt reply) earlier o
    change_failed H' at before count (m.Goes i w) longer here is = absurd is
    change_failed H' at before count (m.Ends i r) longer here is =
        subst (λ (z : Item). Serves base coll k (changing one) (sight H' z ∷ earlier) r) (sym is.0) (failed_serves base coll k (changing one) tt earlier H H' at before count r way.0 longer here is.1)
    change_failed H' at before count m.NoMemory longer here is = absurd is

-- what a state asks of the store, by where it stands
pub fits_so : GivenOnce → (base : Base) (coll : Name) (k : ℕ) (w : State) (H : List Entry) (trace : List Item) → IsPlaced k H trace → IsJournal base H → AreApart base.collections → IsOld base → IsUnderWay base coll k w (sights H trace) → Fits (replay base H) coll w
fits_so once base coll k (Inserting insertions) H trace placed lawful apart old way = tt
fits_so once base coll k (Selecting search p shows) H trace placed lawful apart old way = tt
fits_so once base coll k (Listing search p part) H trace placed lawful apart old way = tt
fits_so once base coll k (Counting w last n) H trace placed lawful apart old way = tt
fits_so once base coll k (Choosing one p) H trace placed lawful apart old way = tt
fits_so once base coll k (Changing one attempt reply) H trace placed lawful apart old way = fits_now base coll k one attempt reply H trace placed lawful apart way once old
fits_so once base coll k (Putting one doc reply) H trace placed lawful apart old way = tt
fits_so once base coll k (Paging many stand) H trace placed lawful apart old way = tt
fits_so once base coll k (Trying many stand attempt) H trace placed lawful apart old way = fits_attempt base coll (doing_of many.doing) stand attempt _ H trace way.1.0 way.1.1 once lawful apart old (version (replay base H) coll attempt.id) refl
fits_so once base coll k (Retrying many stand id) H trace placed lawful apart old way = tt
fits_so once base coll k (PuttingMany many stand doc reply) H trace placed lawful apart old way = tt
fits_so once base coll k Creating H trace placed lawful apart old way = tt
fits_so once base coll k Dropping H trace placed lawful apart old way = tt
fits_so once base coll k Naming H trace placed lawful apart old way = tt
fits_so once base coll k (Unready command moment ids) H trace placed lawful apart old way = tt
fits_so once base coll k (Done r) H trace placed lawful apart old way = tt
