-- Insertions of the documents of a request: how a step goes on with them, or answers it.
use Rattle.std.proofs.Common.{◌≡◌, ℕ, ◌+◌, ◌<◌, ◌≤◌, List, [], ◌∷◌, ◌++◌, map, take, drop, reverse, length, Bool, true, false, Option, Some, None, refl, sym, ap, ap₂, ◌∙◌, subst, arith, inl, inr, ◌⊎◌, ⊎_elim, length-append, Vec, Global}
use Rattle.std.specs.Prelude.{⊤, ◌&&◌, if◌then◌else◌, MatchOption, IsSome, slice_get}
use Rattle.std.specs.List.{AllByRecursion as Each}
use Rattle.std.proofs.lemmas.List.{length-map, length-reverse, map-append, reverse-append, take-append-drop, take-append-le}
use Rattle.std.proofs.lemmas.Option.{slice_get_past, slice_get-get_or}
use Rattle.std.proofs.Math.Seq.{take-append_seam}
use Rattle.json_tree.specs.Tree.{Tree}
use Rattle.json_tree.specs.View.{tree}
use Rattle.json_tree.specs.declared.value.Value.{Value}
use Rattle.shred_cols.specs.Row.{id_of}
use Rattle.col_keeper.specs.Tables.{Name}
use Rattle.reply_env.specs.Messages as errors
use Rattle.reply_env.specs.Reply.{IsRefusalOf, TellsInserted}
use Rattle.reply_env.specs.declared.reply.ErrorItem.{ErrorItem}
use Rattle.reply_env.specs.declared.reply.Reply.{Reply}
use Rattle.reply_env.specs.declared.reply.Reply.TheVariants.{NoMemory}
use Rattle.store_core.specs.State.{State as Base, number_at}
use Rattle.store_core.specs.Journal.{replay}
use Rattle.store_core.specs.declared.entry.Entry.{Entry}
use Rattle.store_core.specs.declared.entry.Entry.TheVariants.{Failed}
use Rattle.cmd_grammar.specs.Commands.{IsStorable}
use Rattle.cmd_tasks.specs.Trace.{Sight, sight}
use Rattle.cmd_tasks.specs.Jobs.{Job, inserts}
use Rattle.cmd_tasks.specs.Insertions.{IsInserted, IsTaken, IsInsertion, id_written, error_of_double, is_any, inserted, doubles, next_document, TellsInsertions}
use Rattle.cmd_tasks.specs.Served.{IsPartOf, IsOpen, Serves, Stops, Marks, TellsStop, accepted, one_if_wrote}
use Rattle.cmd_tasks.specs.Looking.{Made, IsLooked}
use Rattle.cmd_tasks.specs.Puts.{MarksPut}
use Rattle.cmd_tasks.specs.Inserting.{IsNextOf, HasMore, is_over, InsertsOn, InsertsMore, StopsAll}
use Rattle.cmd_tasks.specs.Moves.{IsInsertions, IsInserting, IsBegun, IsUnderWay, Leads, Steps, documents_of}
use Rattle.cmd_tasks.specs.declared.trace.Item.{Item}
use Rattle.cmd_tasks.specs.declared.trace.Item.TheVariants.{Lost, Faulted}
use Rattle.cmd_tasks.specs.declared.work.Insertions.{Insertions}
use Rattle.cmd_tasks.specs.declared.work.State.{State}
use Rattle.cmd_tasks.specs.declared.work.State.TheVariants.{Inserting}
use Rattle.cmd_tasks.specs.declared.work.Moved.{Moved}
use Rattle.cmd_tasks.specs.declared.work.Moved.TheVariants as m
use Rattle.cmd_tasks.proofs.Glances.{looked_here, failed_stops}
use Rattle.cmd_tasks.proofs.Requests.{IsNoWrite, stops_for, stop_serves}
use Rattle.cmd_tasks.proofs.Puts.{taken_here, mark_stops}

-- ---- lists

no : false ≡ true → ⊥
no e = cc

back_at : {A : Type 0} (xs ys : List A) (a : A) → slice_get (xs ++ a ∷ ys) (length xs) ≡ Some a
back_at [] ys a = refl
back_at (x ∷ xs) ys a = back_at xs ys a

each_front : {A : Type 0} (P : A → Type 0) (xs ys : List A) → Each P (xs ++ ys) → Each P xs
each_front P [] ys h = tt
each_front P (x ∷ xs) ys h = (h.0, each_front P xs ys h.1)

split_at : (xs all : List Value) → xs ≡ take (length xs) all → all ≡ xs ++ drop (length xs) all
split_at xs all last = sym (take-append-drop (length xs) all) ∙ ap (λ (l : List Value). l ++ drop (length xs) all) (sym last)

-- the values stand with the last one first: where these are left, the next one is the last of them
document_at : (left all : List Value) (v : Value) (n : ℕ) → left ++ v ∷ [] ≡ take (length (left ++ v ∷ [])) all → n + length (left ++ v ∷ []) ≡ length all → slice_get (map tree (reverse all)) n ≡ Some (tree v)
document_at left all v n last sum =
    let xs : List Value = left ++ v ∷ [] in
    let rest : List Value = drop (length xs) all in
    let all_is : all ≡ xs ++ rest = split_at xs all last in
    let front : List Tree = map tree (reverse rest) in
    let back : map tree (reverse all) ≡ front ++ tree v ∷ map tree (reverse left) =
    ap (λ (l : List Value). map tree (reverse l)) all_is ∙ (ap (map tree) (reverse-append xs rest ∙ ap (λ (l : List Value). reverse rest ++ l) (reverse-append left (v ∷ []))) ∙ map-append tree (reverse rest) (v ∷ reverse left)) in
    let a = length-map (reverse rest) tree in let b = length-reverse rest in let c = ap length all_is in let d = length-append xs rest in
    let n_is : n ≡ length front = omega arith in
    ap (λ (l : List Tree). slice_get l n) back ∙ (ap (slice_get (front ++ tree v ∷ map tree (reverse left))) n_is ∙ back_at front (map tree (reverse left)) (tree v))

-- those before it are the first ones of all
left_first : (left all : List Value) (v : Value) → left ++ v ∷ [] ≡ take (length (left ++ v ∷ [])) all → left ≡ take (length left) all
left_first left all v last =
    let xs : List Value = left ++ v ∷ [] in
    let a = length-append left (v ∷ []) in
    sym (ap (take (length left)) (split_at xs all last) ∙ (take-append-le (length left) xs (drop (length xs) all) (omega arith) ∙ take-append_seam left (v ∷ [])))

-- room for more changes nothing
pub with_room : (i : Insertions) (d : Tree) (rest : Insertions) (ids : Vec Tree Global) → ids.items ≡ rest.ids.items → IsNextOf i d rest → IsNextOf i d (record rest { ids = ids })
with_room i d rest ids same next = record { v = next.v; left = next.left; document = next.document; all = next.all; ordered = next.ordered; ids = same ∙ next.ids; errors = next.errors }

-- ---- what comes next

open_next : (b : Bool) (o : Option Tree) (P : Tree → Type 0) → MatchOption (if b then None else o) ⊥ P → (d : Tree) × (o ≡ Some d) × P d
open_next true o P h = absurd h
open_next false None P h = absurd h
open_next false (Some d) P h = (d, refl, h)

next_is : (b : Bool) (o : Option Tree) (d : Tree) → IsSome (if b then None else o) → o ≡ Some d → (if b then None else o) ≡ Some d
next_is true o d some is = absurd (no some)
next_is false o d some is = is

still_open : (b : Bool) (o : Option Tree) → b ≡ false → IsSome o → IsSome (if b then None else o)
still_open true o e some = absurd (no (sym e))
still_open false o e some = some

closed : (b : Bool) (o : Option Tree) → (o ≡ None) ⊎ (b ≡ true) → (if b then None else o) ≡ None
closed true o h = refl
closed false o h = ⊎_elim (λ e. e) (λ e. absurd (no e)) h

module _ (base : Base) (coll : Name) (k : ℕ) where
  one_written : (d : Tree) (s : Sight) → IsInsertion base coll k d s → one_if_wrote s.item ≡ length (id_written s.item (Some d))
  one_written d s h = ⊎_elim
      (λ (made : IsInserted base coll k d s). subst (λ (i : Item). one_if_wrote i ≡ length (id_written i (Some d))) (sym made.wrote.0) refl)
      (λ (taken : (tx : ℕ) × IsTaken base coll k d tx s). subst (λ (i : Item). one_if_wrote i ≡ length (id_written i (Some d))) (sym taken.1.item) refl)
      h

  -- as many writes were accepted as ids are told
  pub inserts_accepts : (ds : List Tree) (ordered : Bool) (s : List Sight) → IsPartOf base coll k (inserts ds ordered) s → accepted s ≡ length (inserted ds s)
  inserts_accepts ds ordered [] h = refl
  inserts_accepts ds ordered (s ∷ earlier) h =
      let a = inserts_accepts ds ordered earlier h.0 in
      let next = open_next (ordered && is_any (doubles ds earlier)) (slice_get ds (length earlier)) (λ d. IsInsertion base coll k d s) h.2 in
      let b = one_written next.0 s next.2 in
      let c = length-append (inserted ds earlier) (id_written s.item (slice_get ds (length earlier))) in
      let d = ap (λ (o : Option Tree). length (id_written s.item o)) next.1 in
      omega arith

module _ (i : Insertions) (d : Tree) (rest : Insertions) (ready : IsInsertions i) (next : IsNextOf i d rest) where
  abbrev ds : List Tree
  ds = documents_of i.all.value

  abbrev job : Job
  job = inserts ds i.ordered

  one_less : length i.left.items ≡ length rest.left.items + 1
  one_less = let a = ap length next.left in let b = length-append rest.left.items (next.v ∷ []) in omega arith

  last_is : rest.left.items ++ next.v ∷ [] ≡ take (length (rest.left.items ++ next.v ∷ [])) i.all.value.items
  last_is = subst (λ (l : List Value). l ≡ take (length l) i.all.value.items) next.left ready.last

  -- ---- told or not

  module _ (ids : List Tree) (es : List ErrorItem) (more : Insertions) (has : HasMore rest ids es more) where
    same_job : inserts (documents_of more.all.value) more.ordered ≡ job
    same_job = ap₂ (λ a b. inserts (documents_of a) b) (has.all ∙ next.all) (has.ordered ∙ next.ordered)

    still_ready : length ids ≤ 1 → 0 < length more.left.items → IsInsertions more
    still_ready one some = record {
      storable = subst (Each (λ v. IsStorable (tree v))) (sym has.left) (each_front (λ v. IsStorable (tree v)) rest.left.items (next.v ∷ []) (subst (Each (λ v. IsStorable (tree v))) next.left ready.storable));
      last = has.left ∙ (left_first rest.left.items i.all.value.items next.v last_is ∙ ap₂ (λ l a. take (length l) a.items) (sym has.left) (sym (has.all ∙ next.all)));
      some = some;
      few = let a = ap length has.ids_are in let b = length-append rest.ids.items ids in let c = ap length next.ids in let e = ap length has.left in let f = one_less in let g = ready.few in omega arith;
    }

    pub on_steps : (low high k : ℕ) (H H' : List Entry) (item : Item) (o : Moved) → length ids ≤ 1 → Made k low high H H' item → InsertsOn more item o → Steps k low high (Inserting i) H H' o
    on_steps low high k H H' item (m.Goes at w) one made on =
        let fewer : length more.left.items < length i.left.items = let a = ap length has.left in let b = one_less in omega arith in
        subst (λ (z : State). Steps k low high (Inserting i) H H' (m.Goes at z)) (sym on.1)
        (subst (Made k low high H H') (sym on.0) made, ap Some same_job, still_ready one on.2, fewer)
    on_steps low high k H H' item (m.Ends at reply) one made on = subst (Made k low high H H') (sym on.0) made
    on_steps low high k H H' item m.NoMemory one made on = absurd on

  pub stop_steps : (low high k : ℕ) (H H' : List Entry) (At : Item → Type 0) (error : ErrorItem) (o : Moved) → ((item : Item) → At item → Made k low high H H' item) → StopsAll rest At error o → Steps k low high (Inserting i) H H' o
  stop_steps low high k H H' At error (m.Goes item w) made is = absurd is
  stop_steps low high k H H' At error (m.Ends item reply) made is = made item is.0
  stop_steps low high k H H' At error m.NoMemory made is = absurd is

  pub doubled_steps : (low high k : ℕ) (H H' : List Entry) (item : Item) (error : ErrorItem) (o : Moved) → H' ≡ H → Made k low high H H' item → (o ≡ m.NoMemory) ⊎ InsertsMore rest [] (error ∷ []) item o
      → Steps k low high (Inserting i) H H' o
  doubled_steps low high k H H' item error o same made more = ⊎_elim
      (λ (e : o ≡ m.NoMemory). subst (λ (z : Moved). Steps k low high (Inserting i) H H' z) (sym e) same)
      (λ (z : InsertsMore rest [] (error ∷ []) item o). on_steps [] (error ∷ []) z.0 z.1 low high k H H' item o (omega arith) made z.2)
      more

  pub mark_steps : (low high k : ℕ) (H H' : List Entry) (at : ℕ) (key : Tree) (error : ErrorItem) (o : Moved) → H' ≡ H → at ≡ length H → (o ≡ m.NoMemory) ⊎ StopsAll rest (λ item. IsLooked item at (Some key) (Some key) []) error o
      → Steps k low high (Inserting i) H H' o
  mark_steps low high k H H' at key error o same here stops = ⊎_elim
      (λ (e : o ≡ m.NoMemory). subst (λ (z : Moved). Steps k low high (Inserting i) H H' z) (sym e) same)
      (λ z. stop_steps low high k H H' (λ item. IsLooked item at (Some key) (Some key) []) error o (λ item is. looked_here k low high H H' item at (Some key) (Some key) [] same here is) z)
      stops

  -- ---- where it is told

  module _ (base : Base) (coll : Name) (k : ℕ) (H' : List Entry) (earlier : List Sight) (way : IsUnderWay base coll k (Inserting i) earlier) where
    at_hand : slice_get ds (length earlier) ≡ Some d
    at_hand = document_at rest.left.items i.all.value.items next.v (length earlier) last_is (ap (λ (l : List Value). length earlier + length l) (sym next.left) ∙ way.1.all) ∙ ap (λ (t : Tree). Some t) next.document

    comes : next_document ds i.ordered earlier ≡ Some d
    comes = next_is (i.ordered && is_any (doubles ds earlier)) (slice_get ds (length earlier)) d way.0.1 at_hand

    -- ---- it goes on behind the sight of it

    module _ (ids : List Tree) (es : List ErrorItem) (more : Insertions) (has : HasMore rest ids es more) (item : Item) (insertion : IsInsertion base coll k d (sight H' item))
        (ids_is : id_written item (Some d) ≡ ids) (es_is : error_of_double item (Some d) ≡ es) where
      abbrev s : Sight
      s = sight H' item

      part : IsPartOf base coll k job (s ∷ earlier)
      part = (way.0.0, way.0.1, subst (λ (o : Option Tree). MatchOption o ⊥ (λ d. IsInsertion base coll k d s)) (sym comes) insertion)

      ids_told : more.ids.items ≡ inserted ds (s ∷ earlier)
      ids_told = has.ids_are ∙ ap₂ (λ a b. a ++ b) (next.ids ∙ way.1.ids_are) (sym ids_is ∙ ap (id_written item) (sym at_hand))

      errors_told : more.errors.items ≡ doubles ds (s ∷ earlier)
      errors_told = has.errors_are ∙ ap₂ (λ a b. a ++ b) (next.errors ∙ way.1.errors_are) (sym es_is ∙ ap (error_of_double item) (sym at_hand))

      all_is : length (s ∷ earlier) + length more.left.items ≡ length i.all.value.items
      all_is = let a = ap length has.left in let b = one_less in let c = way.1.all in omega arith

      length_is : length ds ≡ length i.all.value.items
      length_is = length-map (reverse i.all.value.items) tree ∙ length-reverse i.all.value.items

      over_is : is_over more ≡ i.ordered && is_any (doubles ds (s ∷ earlier))
      over_is = ap₂ (λ a b. a && is_any b) (has.ordered ∙ next.ordered) errors_told

      keeps : IsInserting base coll k more (s ∷ earlier)
      keeps = record {
        all = all_is ∙ ap (λ a. length a.items) (sym (has.all ∙ next.all));
        ids_are = ids_told ∙ ap (λ a. inserted (documents_of a) (s ∷ earlier)) (sym (has.all ∙ next.all));
        errors_are = errors_told ∙ ap (λ a. doubles (documents_of a) (s ∷ earlier)) (sym (has.all ∙ next.all));
      }

      goes : 0 < length more.left.items → is_over more ≡ false → IsUnderWay base coll k (Inserting more) (s ∷ earlier)
      goes some on =
          let within : length (s ∷ earlier) < length ds = let a = all_is in let b = length_is in omega arith in
          let opened : IsOpen base coll k job (s ∷ earlier) = still_open (i.ordered && is_any (doubles ds (s ∷ earlier))) (slice_get ds (length (s ∷ earlier))) (sym over_is ∙ on) (subst (λ (o : Option Tree). IsSome o) (sym (slice_get-get_or ds (length (s ∷ earlier)) d within)) refl) in
          (subst (λ (j : Job). IsBegun base coll k j (s ∷ earlier)) (sym (same_job ids es more has)) (part, opened), keeps)

      ends : (reply : Reply) → (more.left.items ≡ []) ⊎ (is_over more ≡ true) → TellsInsertions more.ids.items more.errors.items reply → Serves base coll k job (s ∷ earlier) reply
      ends reply over tells =
          let none = ⊎_elim
          (λ (e : more.left.items ≡ []). let a = all_is in let b = length_is in let c = ap length e in inl (slice_get_past ds (length (s ∷ earlier)) (omega arith)))
          (λ (e : is_over more ≡ true). inr (sym over_is ∙ e)) over in
          inl (
            part,
            (
              closed (i.ordered && is_any (doubles ds (s ∷ earlier))) (slice_get ds (length (s ∷ earlier))) none,
              subst (λ (l : List ErrorItem). TellsInsertions (inserted ds (s ∷ earlier)) l reply) errors_told (subst (λ (l : List Tree). TellsInsertions l more.errors.items reply) ids_told tells),
            ),
          )

      pub on_leads : (o : Moved) → InsertsOn more item o → Leads base coll k H' (Inserting i) earlier o
      on_leads (m.Goes at w) on = subst (λ (z : State). IsUnderWay base coll k z (sight H' at ∷ earlier)) (sym on.1) (subst (λ (z : Item). IsUnderWay base coll k (Inserting more) (sight H' z ∷ earlier)) (sym on.0) (goes on.2 on.3))
      on_leads (m.Ends at reply) on = subst (λ (z : Item). Serves base coll k job (sight H' z ∷ earlier) reply) (sym on.0) (ends reply on.1 on.2)
      on_leads m.NoMemory on = absurd on

    -- ---- it stops in the place of its write

    pub stop_leads : (At : Item → Type 0) (error : ErrorItem) (o : Moved) → ((item : Item) → At item → Stops base coll k (MarksPut d) ⊤ item (sight H' item) error) → StopsAll rest At error o → Leads base coll k H' (Inserting i) earlier o
    stop_leads At error (m.Goes item w) stops is = absurd is
    stop_leads At error (m.Ends item reply) stops is = stop_serves base coll k job earlier (sight H' item) error reply way.0
        (stops_for base coll k (MarksPut d) (Marks base coll k job earlier) ⊤ item (sight H' item) error tt
        (λ after up z. subst (λ (o : Option Tree). MatchOption o ⊥ (λ d. (after ≡ Some (id_of d)) × (up ≡ Some (id_of d)))) (sym comes) z) (stops item is.0))
        (⊎_elim (λ t. inl (told reply t)) (λ e. inr (e ∙ ap NoMemory (ap length (next.ids ∙ way.1.ids_are) ∙ sym (inserts_accepts base coll k ds i.ordered earlier way.0.0)))) is.1)
      where
        told : (reply : Reply) → IsRefusalOf (rest.errors.items ++ error ∷ []) (TellsInserted rest.ids.items) reply → TellsStop base coll k job (sight H' item ∷ earlier) error reply
        told reply t = subst (λ (l : List Tree). IsRefusalOf (doubles ds earlier ++ error ∷ []) (TellsInserted l) reply) (next.ids ∙ way.1.ids_are)
            (subst (λ (l : List ErrorItem). IsRefusalOf (l ++ error ∷ []) (TellsInserted rest.ids.items) reply) (next.errors ∙ way.1.errors_are) t)
    stop_leads At error m.NoMemory stops is = absurd is

    -- its id is there
    pub doubled_leads : (H : List Entry) (at tx : ℕ) (key : Tree) (o : Moved) → key ≡ id_of d → H' ≡ H → at ≡ length H → number_at (replay base H) coll key ≡ Some tx
        → (o ≡ m.NoMemory) ⊎ InsertsMore rest [] (errors.already_exists key tx ∷ []) (Lost at 0 (Some tx)) o → Leads base coll k H' (Inserting i) earlier o
    doubled_leads H at tx key o key_is same here there more = ⊎_elim
        (λ (e : o ≡ m.NoMemory). subst (λ (z : Moved). Leads base coll k H' (Inserting i) earlier z) (sym e) tt)
        (λ (z : InsertsMore rest [] (errors.already_exists key tx ∷ []) (Lost at 0 (Some tx)) o).
        on_leads [] (errors.already_exists key tx ∷ []) z.0 z.1 (Lost at 0 (Some tx)) (inr (tx, taken_here base coll k d H H' at tx same here (subst (λ (t : Tree). number_at (replay base H) coll t ≡ Some tx) key_is there)))
        refl (ap (λ (t : Tree). errors.already_exists t tx ∷ []) (sym key_is)) o z.2)
        more

    pub mark_leads : (H : List Entry) (at : ℕ) (key : Tree) (error : ErrorItem) (o : Moved) → key ≡ id_of d → H' ≡ H → at ≡ length H → IsNoWrite coll (replay base H) error
        → (o ≡ m.NoMemory) ⊎ StopsAll rest (λ item. IsLooked item at (Some key) (Some key) []) error o → Leads base coll k H' (Inserting i) earlier o
    mark_leads H at key error o key_is same here cause stops = ⊎_elim
        (λ (e : o ≡ m.NoMemory). subst (λ (z : Moved). Leads base coll k H' (Inserting i) earlier z) (sym e) tt)
        (λ z. stop_leads (λ item. IsLooked item at (Some key) (Some key) []) error o (λ item is. mark_stops base coll k d H H' at item error same here (subst (λ (t : Tree). IsLooked item at (Some t) (Some t) []) key_is is) cause) z)
        stops

    pub fault_leads : (H : List Entry) (at before count : ℕ) (o : Moved) → H' ≡ H ++ Failed k before count ∷ [] → at ≡ length H
        → StopsAll rest (λ item. item ≡ Faulted at before count) (errors.store_fault before count) o → Leads base coll k H' (Inserting i) earlier o
    fault_leads H at before count o longer here stops = stop_leads (λ item. item ≡ Faulted at before count) (errors.store_fault before count) o
        (λ item is. subst (λ (z : Item). Stops base coll k (MarksPut d) ⊤ z (sight H' z) (errors.store_fault before count)) (sym is) (failed_stops base coll k (MarksPut d) ⊤ H H' at before count longer here)) stops
