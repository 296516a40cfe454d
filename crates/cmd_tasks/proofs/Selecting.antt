-- How findOne and find go on, or are answered, by what a step of their search tells.
use Rattle.std.proofs.Common.{◌≡◌, ◌⊎◌, ℕ, zero, suc, List, [], ◌∷◌, map, take, drop, Option, Some, None, refl, sym, ap, ◌∙◌, subst, inl, inr, ⊎_elim}
use Rattle.std.specs.Option.{option_map}
use Rattle.std.proofs.lemmas.List.{drop-take}
use Rattle.json_tree.specs.Tree.{Tree}
use Rattle.shred_cols.specs.Row.{Version}
use Rattle.shred_cols.specs.Rows.{first}
use Rattle.col_keeper.specs.Tables.{Name}
use Rattle.filter_tree.specs.Filters.{FilterTree}
use Rattle.filter_tree.specs.View.{filter_tree}
use Rattle.view_sort.specs.Sort.{SortKeys}
use Rattle.view_sort.specs.View.{view}
use Rattle.reply_env.specs.declared.reply.Reply.{Reply}
use Rattle.store_core.specs.State.{State as Base}
use Rattle.store_core.specs.declared.entry.Entry.{Entry}
use Rattle.cmd_grammar.specs.Commands.{Shows, Paging}
use Rattle.cmd_tasks.specs.Jobs.{Job, finds_one, finds}
use Rattle.cmd_tasks.specs.Trace.{Sight, Found, sight, shown, GoesOn, IsListed}
use Rattle.cmd_tasks.specs.Searches.{bound, in_order}
use Rattle.cmd_tasks.specs.Part.{from_of, keep_of, most_of, part_of, state_after}
use Rattle.cmd_tasks.specs.Served.{IsPartOf, Serves, TellsFound, TellsListed}
use Rattle.cmd_tasks.specs.Pages.{found_row}
use Rattle.cmd_tasks.specs.Looking.{Made}
use Rattle.cmd_tasks.specs.Searching.{IsSearching, IsUnended, Seeks}
use Rattle.cmd_tasks.specs.Moves.{IsUnderWay, Leads, Steps, EndsSo, Finds, Lists, TellsPage, paging}
use Rattle.cmd_tasks.specs.declared.work.Search.{Search}
use Rattle.cmd_tasks.specs.declared.work.Progress.{Progress}
use Rattle.cmd_tasks.specs.declared.work.Part.{Part}
use Rattle.cmd_tasks.specs.declared.work.State.{State}
use Rattle.cmd_tasks.specs.declared.work.State.TheVariants.{Selecting, Listing}
use Rattle.cmd_tasks.specs.declared.work.Moved.{Moved}
use Rattle.cmd_tasks.specs.declared.work.Moved.TheVariants as m
use Rattle.cmd_tasks.specs.declared.work.Searched.{Searched}
use Rattle.cmd_tasks.specs.declared.work.Searched.TheVariants as r
use Rattle.cmd_tasks.specs.declared.trace.Item.{Item}
use Rattle.cmd_tasks.proofs.Listing.{map_of_map}
use Rattle.cmd_tasks.proofs.Requests.{find_one_accepts, find_accepts, stopped_serves, answered}
use Rattle.cmd_tasks.proofs.Fresh.{first_kept}

-- what a search tells wherever it stands
abbrev pub SeeksOn : Base → Name → Search → Progress → ℕ → List Entry → Searched → Type 0
SeeksOn base coll search p k H' o = (from : Option Tree) (looks : List Sight) → IsUnended base coll from search looks → IsSearching base coll from search p looks → Seeks base coll from search k H' looks o

-- the end of a step, with its item
pub ended_steps : (k low high : ℕ) (H H' : List Entry) (w : State) (item : Item) (P : Reply → Type 0) (o : Moved) → Made k low high H H' item → EndsSo item P o → Steps k low high w H H' o
ended_steps k low high H H' w item P (m.Goes i s) made is = absurd is
ended_steps k low high H H' w item P (m.Ends i reply) made is = subst (Made k low high H H') (sym is.0) made
ended_steps k low high H H' w item P m.NoMemory made is = absurd is

-- ---- the rows that were kept, and the documents that were found

shown_first : (shows : Shows) (o : Option Version) → option_map (λ (x : Found). view shows x.doc) (option_map found_row o) ≡ option_map (λ (v : Version). view shows v.doc) o
shown_first shows None = refl
shown_first shows (Some v) = refl

map_drop : {A B : Type 0} (f : A → B) (n : ℕ) (xs : List A) → map f (drop n xs) ≡ drop n (map f xs)
map_drop f zero xs = refl
map_drop f (suc n) [] = refl
map_drop f (suc n) (x ∷ xs) = map_drop f n xs

-- the rows behind those that are skipped are the page
pub page_is : (p : Paging) (keep : ℕ) (kept : List Version) (xs : List Found) → keep ≡ keep_of p → map found_row kept ≡ take keep xs → map found_row (drop p.skip kept) ≡ part_of p xs
page_is p keep kept xs keep_is are = map_drop found_row p.skip kept ∙ (ap (drop p.skip) (are ∙ ap (λ n. take n xs) keep_is) ∙ drop-take p.skip (most_of p) xs)

-- the views and the page state of the rows are those of what was found
pub page_told : (sort : SortKeys) (part : Part) (rows : List Version) (xs : List Found) (reply : Reply) → map found_row rows ≡ part_of (paging part) xs → TellsPage sort part rows reply
    → TellsListed (map (λ (x : Found). view part.projection x.doc) (part_of (paging part) xs)) (state_after sort (paging part) (part_of (paging part) xs)) reply
page_told sort part rows xs reply are told =
    subst (λ (z : List Found). TellsListed (map (λ (x : Found). view part.projection x.doc) z) (state_after sort (paging part) z) reply) are
    (subst (λ (z : List Tree). TellsListed z (state_after sort (paging part) (map found_row rows)) reply) (sym (map_of_map found_row (λ (x : Found). view part.projection x.doc) rows)) told)

module _ (base : Base) (coll : Name) (k : ℕ) where
  module _ (search : Search) (H' : List Entry) (earlier : List Sight) where
    abbrev f : FilterTree
    f = filter_tree search.wanted.filter

    abbrev IsEndedBy : ℕ → List Sight → Type 0
    IsEndedBy n looks = IsListed base coll f (bound search.sort n) looks

    -- ---- findOne

    module _ (p : Progress) (shows : Shows) (one : search.keep ≡ 1) (way : IsUnderWay base coll k (Selecting search p shows) earlier) where
      -- what the step of the search tells here
      pub select_seeks : (o : Searched) → SeeksOn base coll search p k H' o → Seeks base coll None search k H' earlier o
      select_seeks o h = h None earlier (subst (λ (n : ℕ). GoesOn base coll f (bound search.sort n) earlier) (sym one) way.0.1) way.1

      pub select_more : (item : Item) (p' : Progress) → Seeks base coll None search k H' earlier (r.More item p') → IsUnderWay base coll k (Selecting search p' shows) (sight H' item ∷ earlier)
      select_more item p' h = (((way.0.0, way.0.1, h.0), subst (λ (n : ℕ). GoesOn base coll f (bound search.sort n) (sight H' item ∷ earlier)) one h.2), h.1)

      select_whole : (item : Item) (p' : Progress) (reply : Reply) → Seeks base coll None search k H' earlier (r.Whole item p') → Finds (option_map (λ (v : Version). view shows v.doc) (first p'.kept.items)) reply
          → Serves base coll k (finds_one f search.sort shows) (sight H' item ∷ earlier) reply
      select_whole item p' reply h told =
          let sights : List Sight = sight H' item ∷ earlier in
          let xs = in_order search.sort (shown base coll f sights) in
          let part : IsPartOf base coll k (finds_one f search.sort shows) sights = (way.0.0, way.0.1, h.0) in
          let is : option_map (λ (x : Found). view shows x.doc) (first xs) ≡ option_map (λ (v : Version). view shows v.doc) (first p'.kept.items) =
          ap (option_map (λ (x : Found). view shows x.doc)) (first_kept p'.kept.items xs (h.1.kept ∙ ap (λ (n : ℕ). take n xs) one)) ∙ shown_first shows (first p'.kept.items) in
          let ended = subst (λ (n : ℕ). IsEndedBy n sights) one h.2 in
          answered base coll k (finds_one f search.sort shows) sights reply _ part (find_one_accepts base coll k f search.sort shows sights part)
          (λ t. (ended, inr (h.3, subst (λ (d : Option Tree). TellsFound d reply) (sym is) t))) told

      pub select_ended : (item : Item) (p' : Progress) (o : Moved) → Seeks base coll None search k H' earlier (r.Whole item p') → EndsSo item (Finds (option_map (λ (v : Version). view shows v.doc) (first p'.kept.items))) o
          → Leads base coll k H' (Selecting search p shows) earlier o
      select_ended item p' (m.Goes i w) h is = absurd is
      select_ended item p' (m.Ends i reply) h is = subst (λ (z : Item). Serves base coll k (finds_one f search.sort shows) (sight H' z ∷ earlier) reply) (sym is.0) (select_whole item p' reply h is.1)
      select_ended item p' m.NoMemory h is = absurd is

      pub select_stopped : (item : Item) (reply : Reply) → Seeks base coll None search k H' earlier (r.Stopped item reply) → Serves base coll k (finds_one f search.sort shows) (sight H' item ∷ earlier) reply
      select_stopped item reply h = ⊎_elim
          (λ stops. stopped_serves base coll k (finds_one f search.sort shows) tt earlier (sight H' item) stops.0 reply way.0 stops.1 stops.2)
          (λ many.
          let part : IsPartOf base coll k (finds_one f search.sort shows) (sight H' item ∷ earlier) = (way.0.0, way.0.1, many.0) in
          answered base coll k (finds_one f search.sort shows) (sight H' item ∷ earlier) reply _ part (find_one_accepts base coll k f search.sort shows (sight H' item ∷ earlier) part) (λ t. (subst (λ (n : ℕ). IsEndedBy n (sight H' item ∷ earlier)) one many.1, inl (many.2, t))) many.3)
          h

    -- ---- find

    module _ (p : Progress) (part : Part) (keeps : search.keep ≡ keep_of (paging part)) (way : IsUnderWay base coll k (Listing search p part) earlier) where
      abbrev asked_for : Job
      asked_for = finds f search.sort part.projection (paging part)

      abbrev from : Option Tree
      from = from_of (paging part)

      pub list_seeks : (o : Searched) → SeeksOn base coll search p k H' o → Seeks base coll from search k H' earlier o
      list_seeks o h = h from earlier (subst (λ (n : ℕ). GoesOn base coll f (bound search.sort n) earlier) (sym keeps) way.0.1) way.1

      pub list_more : (item : Item) (p' : Progress) → Seeks base coll from search k H' earlier (r.More item p') → IsUnderWay base coll k (Listing search p' part) (sight H' item ∷ earlier)
      list_more item p' h = (((way.0.0, way.0.1, h.0), subst (λ (n : ℕ). GoesOn base coll f (bound search.sort n) (sight H' item ∷ earlier)) keeps h.2), h.1)

      list_whole : (item : Item) (p' : Progress) (reply : Reply) → Seeks base coll from search k H' earlier (r.Whole item p') → Lists search.sort part (drop part.skip p'.kept.items) reply
          → Serves base coll k asked_for (sight H' item ∷ earlier) reply
      list_whole item p' reply h lists =
          let sights : List Sight = sight H' item ∷ earlier in
          let xs = in_order search.sort (shown base coll f sights) in
          let taken : IsPartOf base coll k asked_for sights = (way.0.0, way.0.1, h.0) in
          let rows = page_is (paging part) search.keep p'.kept.items xs keeps h.1.kept in
          answered base coll k asked_for sights reply _ taken (find_accepts base coll k f search.sort part.projection (paging part) sights taken)
          (λ t. (subst (λ (n : ℕ). IsEndedBy n sights) keeps h.2, inr (h.3, page_told search.sort part (drop part.skip p'.kept.items) xs reply rows t))) lists

      pub list_ended : (item : Item) (p' : Progress) (o : Moved) → Seeks base coll from search k H' earlier (r.Whole item p') → EndsSo item (Lists search.sort part (drop part.skip p'.kept.items)) o
          → Leads base coll k H' (Listing search p part) earlier o
      list_ended item p' (m.Goes i w) h is = absurd is
      list_ended item p' (m.Ends i reply) h is = subst (λ (z : Item). Serves base coll k asked_for (sight H' z ∷ earlier) reply) (sym is.0) (list_whole item p' reply h is.1)
      list_ended item p' m.NoMemory h is = absurd is

      pub list_stopped : (item : Item) (reply : Reply) → Seeks base coll from search k H' earlier (r.Stopped item reply) → Serves base coll k asked_for (sight H' item ∷ earlier) reply
      list_stopped item reply h = ⊎_elim
          (λ stops. stopped_serves base coll k asked_for tt earlier (sight H' item) stops.0 reply way.0 stops.1 stops.2)
          (λ many.
          let taken : IsPartOf base coll k asked_for (sight H' item ∷ earlier) = (way.0.0, way.0.1, many.0) in
          answered base coll k asked_for (sight H' item ∷ earlier) reply _ taken (find_accepts base coll k f search.sort part.projection (paging part) (sight H' item ∷ earlier) taken) (λ t. (subst (λ (n : ℕ). IsEndedBy n (sight H' item ∷ earlier)) keeps many.1, inl (many.2, t))) many.3)
          h
