-- How a command that changes one document searches in a round, and what it makes of what it finds.
use Rattle.std.proofs.Common.{◌≡◌, ℕ, ◌<◌, List, [], ◌∷◌, ◌++◌, take, length, true, false, Option, Some, None, refl, sym, ap, ◌∙◌, subst, arith, inl, inr, ⊎_elim}
use Rattle.std.specs.Prelude.{IsSome, MatchOption, slice_get}
use Rattle.std.specs.Option.{option_map}
use Rattle.json_tree.specs.Tree.{Tree}
use Rattle.shred_cols.specs.Row.{Version, id_of}
use Rattle.shred_cols.specs.Rows.{Rows, first}
use Rattle.col_keeper.specs.Tables.{Name, IsShort}
use Rattle.filter_tree.specs.Filters.{FilterTree}
use Rattle.filter_tree.specs.View.{filter_tree}
use Rattle.reply_env.specs.Messages as errors
use Rattle.reply_env.specs.declared.reply.ErrorItem.{ErrorItem}
use Rattle.reply_env.specs.declared.reply.Reply.{Reply}
use Rattle.reply_env.specs.declared.reply.Reply.TheVariants.{NoMemory}
use Rattle.reply_env.specs.declared.update_errors.Loss.{Loss}
use Rattle.store_core.specs.State.{State as Base}
use Rattle.store_core.specs.declared.entry.Entry.{Entry}
use Rattle.view_sort.specs.Sort.{SortKeys}
use Rattle.cmd_tasks.specs.Trace.{Sight, sight, writes, Found, shown, Looks, IsLook, GoesOn, IsListed, next_from}
use Rattle.cmd_tasks.specs.Searches.{bound, in_order, first_of}
use Rattle.cmd_tasks.specs.Doing.{Doing, upsert_of}
use Rattle.cmd_tasks.specs.Jobs.{Form}
use Rattle.cmd_tasks.specs.Outcomes.{TellsUnwritten, TellsNone, ready}
use Rattle.cmd_tasks.specs.Served.{IsPartOf, IsFound, AnswersOne, Serves, Stops, Marks, IsToWrite, chosen, insertion, put_last, round, round_with, losses, lost_by, accepted, one_if_wrote}
use Rattle.cmd_tasks.specs.Pages.{found_row}
use Rattle.cmd_tasks.specs.Looking.{Made, AreShort, Refuses}
use Rattle.cmd_tasks.specs.Searching.{IsSearching, IsSeen, IsUnended, IsEnded, has_too_many, Seeks}
use Rattle.cmd_tasks.specs.Many.{doing_of, form_of}
use Rattle.cmd_tasks.specs.Ones.{Takes, Misses, Chooses}
use Rattle.cmd_tasks.specs.Moves.{changing, IsOne, Steps, Leads, IsUnderWay}
use Rattle.cmd_tasks.specs.declared.work.One.{One}
use Rattle.cmd_tasks.specs.declared.work.State.{State}
use Rattle.cmd_tasks.specs.declared.work.State.TheVariants.{Choosing}
use Rattle.cmd_tasks.specs.declared.work.Moved.{Moved}
use Rattle.cmd_tasks.specs.declared.work.Moved.TheVariants as m
use Rattle.cmd_tasks.specs.declared.work.Progress.{Progress}
use Rattle.cmd_tasks.specs.declared.work.Searched.{Searched}
use Rattle.cmd_tasks.specs.declared.work.Searched.TheVariants as sr
use Rattle.cmd_tasks.specs.declared.trace.Item.{Item}
use Rattle.cmd_tasks.specs.declared.trace.Item.TheVariants.{Looked, Wrote, Lost, Faulted}
use Rattle.cmd_tasks.proofs.Requests.{stopped_serves, answered}
use Rattle.cmd_tasks.proofs.Selecting.{SeeksOn}
use Rattle.cmd_tasks.proofs.Fresh.{match_some, match_none, some_is, none_yet, first_told, first_kept, first_each}
use Rattle.cmd_tasks.proofs.Misses.{unput_while_on, put_where_none}

-- ---- what a step is, told or not

takes_steps : (k low high : ℕ) (H H' : List Entry) (one : One) (p : Progress) (item : Item) (v : Version) (o : Moved) → Made k low high H H' item → IsOne one → Takes one item v o → Steps k low high (Choosing one p) H H' o
takes_steps k low high H H' one p item v (m.Goes i w) made is_one t = subst (λ (z : Item × State). Steps k low high (Choosing one p) H H' (m.Goes z.0 z.1)) (λ j. (sym t.0 j, sym t.1.3 j))
    (made, refl, (is_one, t.1.2.ready_to), omega arith)
takes_steps k low high H H' one p item v (m.Ends i r) made is_one t = subst (λ (z : Item). Made k low high H H' z) (sym t.0) made
takes_steps k low high H H' one p item v m.NoMemory made is_one t = absurd t

misses_steps : (k low high : ℕ) (H H' : List Entry) (one : One) (p : Progress) (item : Item) (o : Moved) → Made k low high H H' item → Misses one item o → Steps k low high (Choosing one p) H H' o
misses_steps k low high H H' one p item (m.Goes i w) made t = subst (λ (z : Item × State). Steps k low high (Choosing one p) H H' (m.Goes z.0 z.1)) (λ j. (sym t.0 j, sym t.1.5 j))
    (made, refl, t.1.3, omega arith)
misses_steps k low high H H' one p item (m.Ends i r) made t = subst (λ (z : Item). Made k low high H H' z) (sym t.0) made
misses_steps k low high H H' one p item m.NoMemory made t = absurd t

pub choose_steps : (k low high : ℕ) (H H' : List Entry) (one : One) (p : Progress) (item : Item) (rows : List Version) (o : Moved)
    → IsOne one → Made k low high H H' item → Chooses one item rows o → Steps k low high (Choosing one p) H H' o
choose_steps k low high H H' one p item (v ∷ rows) o is_one made c = takes_steps k low high H H' one p item v o made is_one c
choose_steps k low high H H' one p item [] o is_one made c = misses_steps k low high H H' one p item o made c

pub same_version : (a b : Version) → Some a ≡ Some b → a ≡ b
same_version a b e = cc

-- rows with a first one, and none
pub first_chosen : (one : One) (item : Item) (rows : List Version) (o : Moved) (v : Version) → slice_get rows 0 ≡ Some v → Takes one item v o → Chooses one item rows o
first_chosen one item [] o v e h = cc
first_chosen one item (x ∷ rows) o v e h = subst (λ (y : Version). Takes one item y o) (sym (same_version x v e)) h

pub none_chosen : (one : One) (item : Item) (rows : List Version) (o : Moved) → slice_get rows 0 ≡ None → Misses one item o → Chooses one item rows o
none_chosen one item [] o e h = h
none_chosen one item (x ∷ rows) o e h = cc

pub short_first : (rows : List Version) (v : Version) → slice_get rows 0 ≡ Some v → AreShort rows → IsShort (id_of v.doc)
short_first [] v e h = cc
short_first (x ∷ rows) v e h = subst (λ (y : Version). IsShort (id_of y.doc)) (same_version x v e) h.0

-- ---- a look in a round

pub looked_round : (base : Base) (coll : Name) (f : FilterTree) (r : Rows) (from : Option Tree) (i : Item) (s : Sight) (rd : List Sight) → Looks base coll f r from i → round_with i s rd ≡ s ∷ rd
looked_round base coll f r from (Looked at after up page) s rd h = refl
looked_round base coll f r from (Wrote at) s rd h = absurd h
looked_round base coll f r from (Lost at read found) s rd h = absurd h
looked_round base coll f r from (Faulted at before count) s rd h = absurd h

pub looked_facts : (base : Base) (coll : Name) (f : FilterTree) (r : Rows) (from : Option Tree) (i : Item) → Looks base coll f r from i → (lost_by i ≡ []) × (one_if_wrote i ≡ 0) × (writes i ≡ false)
looked_facts base coll f r from (Looked at after up page) h = (refl, refl, refl)
looked_facts base coll f r from (Wrote at) h = absurd h
looked_facts base coll f r from (Lost at read found) h = absurd h
looked_facts base coll f r from (Faulted at before count) h = absurd h

-- a listing that stops in the place of no write
pub stops_more : (base : Base) (coll : Name) (k : ℕ) (P Q : Option Tree → Option Tree → Type 0) (W : Type 0) (i : Item) (s : Sight) (error : ErrorItem) → ((a t : Option Tree) → P a t → Q a t) → (W → ⊥) → Stops base coll k P ⊥ i s error → Stops base coll k Q W i s error
stops_more base coll k P Q W (Looked at after up page) s error f none h = (f after up h.0, h.1, ⊎_elim (λ z. absurd z.0) (λ z. inr ((λ w. absurd (none w)), z.1, z.2)) h.2)
stops_more base coll k P Q W (Wrote at) s error f none h = h
stops_more base coll k P Q W (Lost at read found) s error f none h = h
stops_more base coll k P Q W (Faulted at before count) s error f none h = h

pub not_some : {A : Type 0} (o : Option A) → o ≡ None → IsSome o → ⊥
not_some None e h = cc
not_some (Some a) e h = cc

module _ (base : Base) (coll : Name) (k : ℕ) (one : One) (keep : one.search.keep ≡ 1) (H' : List Entry) (earlier : List Sight) (p : Progress) (way : IsUnderWay base coll k (Choosing one p) earlier) where
  abbrev f : FilterTree
  f = filter_tree one.search.wanted.filter

  abbrev sort : SortKeys
  sort = one.search.sort

  abbrev doing : Doing
  doing = doing_of one.doing

  abbrev form : Form
  form = form_of one.form

  -- no insertion comes next
  unput : insertion base coll k f sort doing earlier ≡ None
  unput = unput_while_on base coll k f sort doing earlier way.1.goes_on

  -- what the step of the search tells in this round
  pub choose_seeks : (o : Searched) → SeeksOn base coll one.search p k H' o → Seeks base coll None one.search k H' (round earlier) o
  choose_seeks o h = h None (round earlier) (subst (λ (n : ℕ). GoesOn base coll f (bound sort n) (round earlier)) (sym keep) way.1.goes_on) way.1.searching

  -- the next look of the round
  module _ (item : Item) (next : IsLook base coll f (next_from None (round earlier)) (sight H' item)) where
    abbrev pub s : Sight
    s = sight H' item

    facts : (lost_by item ≡ []) × (one_if_wrote item ≡ 0) × (writes item ≡ false)
    facts = looked_facts base coll f _ _ item next.1

    part : IsPartOf base coll k (changing one) (s ∷ earlier)
    part = (way.0.0, way.0.1, match_none (chosen base coll k f sort earlier) _ _ way.1.none_yet (match_none (insertion base coll k f sort doing earlier) _ _ unput next))

    round_is : round (s ∷ earlier) ≡ s ∷ round earlier
    round_is = looked_round base coll f _ _ item s (round earlier) next.1

    lost_is : losses (s ∷ earlier) ≡ losses earlier
    lost_is = ap (λ (z : List Loss). z ++ losses earlier) facts.0

    accepted_is : accepted (s ∷ earlier) ≡ 0
    accepted_is = let a = facts.1 in let b = way.0.1.0 in omega arith

    few : length (losses (s ∷ earlier)) < 4
    few = let a = ap length lost_is in let b = way.0.1.1 in omega arith

    chosen_is : chosen base coll k f sort (s ∷ earlier) ≡ first_of sort (s ∷ round earlier) (shown base coll f (s ∷ round earlier))
    chosen_is = ap (λ (z : List Sight). first_of sort z (shown base coll f z)) round_is

    pub choose_more : (p' : Progress) → IsSearching base coll None one.search p' (s ∷ round earlier) → IsUnended base coll None one.search (s ∷ round earlier) → IsUnderWay base coll k (Choosing one p') (s ∷ earlier)
    choose_more p' searching unended = (
      (part, (accepted_is, few, unput, match_none (chosen base coll k f sort (s ∷ earlier)) _ _ none (inl goes))),
      record { searching = subst (IsSearching base coll None one.search p') (sym round_is) searching; none_yet = none; goes_on = goes; lost_are = way.1.lost_are ∙ sym lost_is },
    )
      where
        goes_so : GoesOn base coll f (bound sort 1) (s ∷ round earlier)
        goes_so = subst (λ (n : ℕ). GoesOn base coll f (bound sort n) (s ∷ round earlier)) keep unended

        goes : GoesOn base coll f (bound sort 1) (round (s ∷ earlier))
        goes = subst (GoesOn base coll f (bound sort 1)) (sym round_is) goes_so

        none : chosen base coll k f sort (s ∷ earlier) ≡ None
        none = chosen_is ∙ none_yet base coll f sort (s ∷ round earlier) goes_so

    -- the reply to what was found
    abbrev TellsFirst : Reply → Option Found → Type 0
    TellsFirst r x = MatchOption x (TellsNone f doing form r) (λ x. TellsUnwritten doing form x.doc r)

    answers : (r : Reply) → IsFound base coll k f sort 1 (s ∷ round earlier) (λ xs. TellsFirst r (first xs)) r → AnswersOne base coll k f sort doing form (s ∷ earlier) r
    answers r found = match_none (put_last base coll k f sort doing (s ∷ earlier)) _ _ unput (inr (inr (accepted_is, few, subst (λ (z : List Sight). IsFound base coll k f sort 1 z (λ xs. TellsFirst r (first xs)) r) (sym round_is) found)))

    -- the search of the round is at its end
    module _ (p' : Progress) (searching : IsSearching base coll None one.search p' (s ∷ round earlier)) (ended : IsEnded base coll None one.search (s ∷ round earlier)) (sortable : has_too_many base coll None one.search (s ∷ round earlier) ≡ false) where
      listed : IsListed base coll f (bound sort 1) (s ∷ round earlier)
      listed = subst (λ (n : ℕ). IsListed base coll f (bound sort n) (s ∷ round earlier)) keep ended

      first_is : first (in_order sort (shown base coll f (s ∷ round earlier))) ≡ option_map found_row (first p'.kept.items)
      first_is = first_kept p'.kept.items _ (searching.kept ∙ ap (λ (n : ℕ). take n (in_order sort (shown base coll f (s ∷ round earlier)))) keep)

      told_first : chosen base coll k f sort (s ∷ earlier) ≡ first (in_order sort (shown base coll f (s ∷ round earlier)))
      told_first = chosen_is ∙ first_told base coll f sort (s ∷ round earlier) listed sortable

      found_so : (r : Reply) → TellsFirst r (first (in_order sort (shown base coll f (s ∷ round earlier)))) → Serves base coll k (changing one) (s ∷ earlier) r
      found_so r told = inl (part, answers r (listed, inr (sortable, told)))

      cut : (r : Reply) → r ≡ NoMemory 0 → Serves base coll k (changing one) (s ∷ earlier) r
      cut r e = inr (inr (inl part, e ∙ ap NoMemory (sym accepted_is)))

      -- the first row is taken
      takes : (v : Version) (o : Moved) → option_map found_row (first p'.kept.items) ≡ Some (found_row v) → Takes one item v o → Leads base coll k H' (Choosing one p) earlier o
      takes v (m.Goes i w) is t = subst (λ (z : Item × State). Leads base coll k H' (Choosing one p) earlier (m.Goes z.0 z.1)) (λ j. (sym t.0 j, sym t.1.3 j)) (
        (part, (accepted_is, few, unput, match_some (chosen base coll k f sort (s ∷ earlier)) (found_row v) _ _ (told_first ∙ (first_is ∙ is)) (t.1.0.change, t.1.2.change, tt))),
        record {
          lost_are = way.1.lost_are ∙ sym lost_is;
          x = found_row v;
          is = told_first ∙ (first_is ∙ is);
          number = sym t.1.2.read;
          same_id = sym t.1.2.id;
          change = t.1.2.change;
          seen = subst (IsSeen base coll f (found_row v)) (sym round_is) (first_each (λ (x : Found). IsSeen base coll f x (s ∷ round earlier)) sort searching.versions _ (found_row v) searching.are (first_is ∙ is) searching.seen);
          tells = t.1.2.tells;
        },
      )
      takes v (m.Ends i r) is t = subst (λ (z : Item). Leads base coll k H' (Choosing one p) earlier (m.Ends z r)) (sym t.0) (⊎_elim
          (λ (told : TellsUnwritten doing form v.doc r). found_so r (match_some (first (in_order sort (shown base coll f (s ∷ round earlier)))) (found_row v) _ _ (first_is ∙ is) told))
          (λ (e : r ≡ NoMemory 0). cut r e) t.1)
      takes v m.NoMemory is t = absurd t

      -- none was found
      misses : (o : Moved) → first p'.kept.items ≡ None → Misses one item o → Leads base coll k H' (Choosing one p) earlier o
      misses o none h = go o h
        where
          none_first : first (in_order sort (shown base coll f (s ∷ round earlier))) ≡ None
          none_first = first_is ∙ ap (option_map found_row) none

          go : (o' : Moved) → Misses one item o' → Leads base coll k H' (Choosing one p) earlier o'
          go (m.Goes i w) t = subst (λ (z : Item × State). Leads base coll k H' (Choosing one p) earlier (m.Goes z.0 z.1)) (λ j. (sym t.0 j, sym t.1.5 j)) (
            (part, (accepted_is, few, unput, match_none (chosen base coll k f sort (s ∷ earlier)) _ _ (told_first ∙ none_first) (inr (some_is (insertion base coll k f sort doing (s ∷ earlier)) t.1.0 (puts ∙ t.1.2))))),
            record { none_found = told_first ∙ none_first; is = puts ∙ t.1.2; tells = t.1.4 },
          )
            where
              puts : insertion base coll k f sort doing (s ∷ earlier) ≡ ready (upsert_of f doing)
              puts = put_where_none base coll k f sort doing (s ∷ earlier) (subst (IsListed base coll f (bound sort 1)) (sym round_is) listed)
                  (subst (λ (z : List Sight). first (in_order sort (shown base coll f z)) ≡ None) (sym round_is) none_first)
          go (m.Ends i r) t = subst (λ (z : Item). Leads base coll k H' (Choosing one p) earlier (m.Ends z r)) (sym t.0) (⊎_elim
              (λ (told : TellsNone f doing form r). found_so r (match_none (first (in_order sort (shown base coll f (s ∷ round earlier)))) _ _ none_first told))
              (λ (e : r ≡ NoMemory 0). cut r e) t.1)
          go m.NoMemory t = absurd t

      pub choose_whole : (rows : List Version) (o : Moved) → p'.kept.items ≡ rows → Chooses one item rows o → Leads base coll k H' (Choosing one p) earlier o
      choose_whole (v ∷ more) o are c = takes v o (ap (λ (z : List Version). option_map found_row (first z)) are) c
      choose_whole [] o are c = misses o (ap (λ (z : List Version). first z) are) c

    -- more are found than are sorted
    pub choose_many : (r : Reply) → IsEnded base coll None one.search (s ∷ round earlier) → has_too_many base coll None one.search (s ∷ round earlier) ≡ true → Refuses errors.too_many_to_sort r → Serves base coll k (changing one) (s ∷ earlier) r
    choose_many r ended many refuses = answered base coll k (changing one) (s ∷ earlier) r _ part accepted_is
        (λ t. answers r (subst (λ (n : ℕ). IsListed base coll f (bound sort n) (s ∷ round earlier)) keep ended, inl (many, t))) refuses

  pub choose_stopped : (item : Item) (r : Reply) → Seeks base coll None one.search k H' (round earlier) (sr.Stopped item r) → Serves base coll k (changing one) (sight H' item ∷ earlier) r
  choose_stopped item r h = ⊎_elim
      (λ stops. stopped_serves base coll k (changing one) tt earlier (sight H' item) stops.0 r way.0
      (stops_more base coll k _ (Marks base coll k (changing one) earlier) (IsToWrite base coll k (changing one) earlier) item (sight H' item) stops.0
      (λ a t z. match_none (chosen base coll k f sort earlier) _ _ way.1.none_yet (match_none (insertion base coll k f sort doing earlier) _ _ unput z))
      (λ w. ⊎_elim (not_some (chosen base coll k f sort earlier) way.1.none_yet) (not_some (insertion base coll k f sort doing earlier) unput) w) stops.1) stops.2)
      (λ many. choose_many item many.0 r many.1 many.2 many.3)
      h
