-- A page of a command that takes many documents: what it shows is to be taken next.
use Rattle.std.proofs.Common.{◌≡◌, ℕ, ℤ, List, [], ◌∷◌, ◌++◌, map, reverse, Bool, false, Option, None, refl, sym, ap, ◌∙◌, subst, Vec, Global}
use Rattle.std.specs.Prelude.{is_none, IfSome}
use Rattle.std.proofs.lemmas.List.{reverse-reverse}
use Rattle.json_tree.specs.Tree.{Tree}
use Rattle.shred_cols.specs.Row.{Version}
use Rattle.shred_cols.specs.Rows.{Rows}
use Rattle.col_keeper.specs.Tables.{Name}
use Rattle.filter_tree.specs.Filters.{FilterTree}
use Rattle.filter_tree.specs.View.{filter_tree}
use Rattle.reply_env.specs.declared.reply.ErrorItem.{ErrorItem}
use Rattle.reply_env.specs.declared.reply.Reply.{Reply}
use Rattle.reply_env.specs.declared.update_errors.Loss.{Loss}
use Rattle.store_core.specs.State.{State as Base}
use Rattle.store_core.specs.declared.entry.Entry.{Entry}
use Rattle.cmd_tasks.specs.Trace.{Sight, sight, Found, Looks, IsLook, FullPage, rows_now, shown_by, end_of}
use Rattle.cmd_tasks.specs.Served.{IsPartOf, Marks, IsToWrite, Serves}
use Rattle.cmd_tasks.specs.Pages.{found_row}
use Rattle.cmd_tasks.specs.Looking.{Sees, StopsSo, Refuses}
use Rattle.cmd_tasks.specs.Doing.{Doing}
use Rattle.cmd_tasks.specs.Jobs.{Job}
use Rattle.cmd_tasks.specs.Taking.{Shown, Standing, not_put, settle, shown_with, list_on, with_look, with_item, Turn, turn, looks_on}
use Rattle.cmd_tasks.specs.Turns.{IsWrite, MarksTurn, Follows}
use Rattle.cmd_tasks.specs.Many.{doing_of, taking, put_for, IsWaiting, IsStanding}
use Rattle.cmd_tasks.specs.Going.{GoesOnFrom}
use Rattle.cmd_tasks.specs.ManySteps.{HasPage, TellsAfter}
use Rattle.cmd_tasks.specs.Moves.{IsUnderWay, Leads, stands_at}
use Rattle.cmd_tasks.specs.declared.work.Many.{Many}
use Rattle.cmd_tasks.specs.declared.work.Stand.{Stand}
use Rattle.cmd_tasks.specs.declared.work.State.TheVariants.{Paging}
use Rattle.cmd_tasks.specs.declared.work.Moved.{Moved}
use Rattle.cmd_tasks.specs.declared.work.Glance.TheVariants as g
use Rattle.cmd_tasks.specs.declared.trace.Item.{Item}
use Rattle.cmd_tasks.specs.declared.trace.Item.TheVariants.{Looked, Wrote, Lost, Faulted}
use Rattle.cmd_tasks.proofs.Rounds.{stops_more}
use Rattle.cmd_tasks.proofs.Waiting.{Waits, waits, is_waiting, waits_page, waits_settled}
use Rattle.cmd_tasks.proofs.Kept.{settled_again, settled_put}
use Rattle.cmd_tasks.proofs.Turnings.{paging_turn}
use Rattle.cmd_tasks.proofs.Following.{many_stopped, goes_leads}

shown_back : (s : Sight) (xs : List Found) → map (λ (t : Shown). t.x) (shown_with s xs) ≡ xs
shown_back s [] = refl
shown_back s (x ∷ xs) = ap (λ (z : List Found). x ∷ z) (shown_back s xs)

no_entry : (H' : List Entry) (base : Base) (coll : Name) (f : FilterTree) (from : Option Tree) (r : Rows) (i : Item) → Looks base coll f r from i → (sight H' i).entry ≡ None
no_entry H' base coll f from r (Looked at after up shown) h = refl
no_entry H' base coll f from r (Wrote at) h = absurd h
no_entry H' base coll f from r (Lost at read found) h = absurd h
no_entry H' base coll f from r (Faulted at before count) h = absurd h

module _ (base : Base) (coll : Name) (k : ℕ) (many : Many) (stand : Stand) (unlisted : stand.is_whole ≡ false) (H' : List Entry) (earlier : List Sight) (way : IsUnderWay base coll k (Paging many stand) earlier) where
  abbrev f : FilterTree
  f = filter_tree many.wanted.filter

  abbrev doing : Doing
  doing = doing_of many.doing

  abbrev job : Job
  job = taking many

  -- where it stands before the page
  abbrev st : Standing
  st = stands_at base coll k many earlier

  whole : st.is_whole ≡ false
  whole = sym way.1.3.is_whole ∙ unlisted

  looks : turn (put_for many) doing st ≡ looks_on st.from
  looks = paging_turn (put_for many) doing st way.1.2 way.1.1 whole

  -- the page
  module _ (item : Item) (page : Vec Version Global) (up : Option Tree) (sees : Sees base coll k H' f stand.from (g.Shown item page up)) where
    abbrev s : Sight
    s = sight H' item

    abbrev listed : Standing
    listed = list_on base coll f s st

    next : IsLook base coll f st.from s
    next = subst (λ (l : Option Tree). IsLook base coll f l s) way.1.3.from sees.0

    full : IfSome (end_of item) (λ u. FullPage base coll f (rows_now base coll s) item)
    full = subst (λ (o : Option Tree). IfSome o (λ u. FullPage base coll f (rows_now base coll s) item)) (sym sees.2) sees.3

    part : IsPartOf base coll k job (s ∷ earlier)
    part = (way.0.0, way.0.1, subst (λ (t : Turn). Follows base coll k f t s) (sym looks) (next, full))

    looked : (i : Item) → Looks base coll f (rows_now base coll s) st.from i → with_item base coll f doing i s st ≡ settle doing (with_look base coll f st.again s st)
    looked (Looked at after to shown) h = refl
    looked (Wrote at) h = absurd h
    looked (Lost at read found) h = absurd h
    looked (Faulted at before count) h = absurd h

    stands : stands_at base coll k many (s ∷ earlier) ≡ settle doing listed
    stands = looked item next.1 ∙ ap (λ (b : Bool). settle doing (with_look base coll f b s st)) way.1.2

    queue_is : listed.queue ≡ shown_with s (shown_by base coll f s)
    queue_is = ap (λ (q : List Shown). q ++ shown_with s (shown_by base coll f s)) way.1.1

    waiting : IsWaiting base coll (settle doing listed) (s ∷ earlier)
    waiting = is_waiting base coll (settle doing listed) (s ∷ earlier) (waits_settled base coll doing listed.queue listed (s ∷ earlier)
        (subst (λ (q : List Shown). Waits base coll listed.from listed.is_whole q (s ∷ earlier)) (sym queue_is)
        (waits_page base coll f st.from s earlier next full sees.4 (no_entry H' base coll f st.from (rows_now base coll s) item next.1)
        (subst (λ (z : Bool × List Shown). Waits base coll st.from z.0 z.1 earlier) (λ j. (whole j, way.1.1 j)) (waits base coll st earlier way.1.0)))))

    again : (settle doing listed).again ≡ false
    again = settled_again doing listed.queue listed ∙ way.1.2

    unput : (settle doing listed).put ≡ not_put
    unput = settled_put doing listed.queue listed ∙ way.1.3.unput

    -- the state tells it
    standing_of : (new : Stand) → HasPage stand page.items up new → IsStanding new listed listed.queue
    standing_of new has = record {
      from = has.from_is ∙ sym sees.2;
      is_whole = has.whole_is ∙ ap is_none (sym sees.2);
      queue = ap (λ (q : List Version). map found_row (reverse q)) has.queue_is ∙ (ap (map found_row) (reverse-reverse page.items) ∙ (sym sees.1 ∙ (sym (shown_back s (shown_by base coll f s)) ∙ ap (map (λ (t : Shown). t.x)) (sym queue_is))));
      lost = ap (λ (l : List Loss). reverse l) has.lost_is ∙ way.1.3.lost;
      matched = has.matched_is ∙ way.1.3.matched;
      modified = has.modified_is ∙ way.1.3.modified;
      last = has.last_is ∙ way.1.3.last;
      unput = way.1.3.unput;
    }

    pub page_leads : (new : Stand) (o : Moved) → HasPage stand page.items up new → ((z : Standing) → IsStanding new z z.queue → z.again ≡ false → GoesOnFrom many item (settle doing z) o) → Leads base coll k H' (Paging many stand) earlier o
    page_leads new o has goes = goes_leads base coll k many H' earlier item part (ap (λ (z : Standing). z.again) stands ∙ again) (ap (λ (z : Standing). z.put) stands ∙ unput)
        (subst (λ (z : Standing). IsWaiting base coll z (s ∷ earlier)) (sym stands) waiting) (Paging many stand) o refl
        (subst (λ (z : Standing). GoesOnFrom many item z o) (sym stands) (goes listed (standing_of new has) way.1.2))

  -- no page
  pub page_stopped : (item : Item) (reply told : Reply) → StopsSo base coll k H' stand.from item reply → ((error : ErrorItem) → Refuses error reply → TellsAfter many.doing stand error told) → Serves base coll k job (sight H' item ∷ earlier) told
  page_stopped item reply told stops tells_after = many_stopped base coll k f doing many.page.value earlier (sight H' item) stops.0 told way.0
      (stops_more base coll k _ (Marks base coll k job earlier) (IsToWrite base coll k job earlier) item (sight H' item) stops.0
      (λ a t z. subst (λ (x : Turn). MarksTurn x a t) (sym looks) (z.0 ∙ way.1.3.from, z.1))
      (λ w. subst IsWrite looks w) stops.1)
      way.1.3.unput
      (tells_after stops.0 stops.2 st way.1.3.matched way.1.3.modified)
