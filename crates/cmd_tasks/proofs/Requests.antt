-- How each request goes on, or is answered.
use Rattle.std.proofs.Common.{◌≡◌, ◌≢◌, ℕ, ◌+◌, ◌<◌, ◌≤◌, List, [], ◌∷◌, ◌++◌, take, length, true, false, ◌-◌, ◌^◌, Option, Some, None, refl, sym, ap, ◌∙◌, subst, arith, inl, inr, length-append, Vec, Global, leb, ◌⊎◌, ⊎_elim}
use Rattle.std.specs.Prelude.{⊤, IfSome, nat_le, if◌then◌else◌}
use Rattle.std.proofs.lemmas.List.{length-map}
use Rattle.std.proofs.lemmas.Bool.{leb-true}
use Rattle.std.proofs.lemmas.Bool.Decides.{leb_tells}
use Rattle.outside_io.specs.Causes.{Rose}
use Rattle.json_tree.specs.Tree.{Tree}
use Rattle.shred_cols.specs.Row.{Version}
use Rattle.shred_cols.specs.Rows.{Rows}
use Rattle.col_keeper.specs.Tables.{Name}
use Rattle.filter_tree.specs.Filters.{FilterTree}
use Rattle.filter_tree.specs.View.{filter_tree}
use Rattle.reply_env.specs.Messages as errors
use Rattle.reply_env.specs.Reply.{IsRefusal}
use Rattle.reply_env.specs.declared.reply.ErrorItem.{ErrorItem}
use Rattle.reply_env.specs.declared.reply.Reply.{Reply}
use Rattle.reply_env.specs.declared.reply.Reply.TheVariants.{NoMemory}
use Rattle.store_core.specs.State.{State as Base, IsGone}
use Rattle.store_core.specs.Journal.{replay}
use Rattle.store_core.specs.declared.entry.Entry.{Entry}
use Rattle.store_core.specs.declared.entry.Entry.TheVariants.{Failed}
use Rattle.store_core.specs.declared.outcome.WriteOutcome.{WriteOutcome}
use Rattle.store_core.specs.declared.outcome.WriteOutcome.TheVariants as w
use Rattle.view_sort.specs.Sort.{SortKeys}
use Rattle.cmd_grammar.specs.Commands.{Shows, Paging}
use Rattle.cmd_tasks.specs.Trace.{Sight, sight, now, shown, shown_by, IsLook, Looks}
use Rattle.cmd_tasks.specs.Jobs.{Job, inserts, finds_one, finds, counts, changes_one, changes_many, creates, drops, names}
use Rattle.cmd_tasks.specs.Served.{IsPartOf, Answers, Serves, Stops, Marks, IsToWrite, IsMarked, TellsStop, counted, accepted, one_if_wrote}
use Rattle.cmd_tasks.specs.Pages.{found_row}
use Rattle.cmd_tasks.specs.Wanted.{IsWanted}
use Rattle.cmd_tasks.specs.Looking.{Made, Glances, Sees, StopsSo, Refuses, IsLooked}
use Rattle.cmd_tasks.specs.Moves.{asked, Steps, Leads, IsBegun, IsUnderWay, EndsSo, EndsMarked, count_to}
use Rattle.cmd_tasks.specs.declared.trace.Item.{Item}
use Rattle.cmd_tasks.specs.declared.trace.Item.TheVariants.{Looked, Wrote, Lost, Faulted}
use Rattle.cmd_tasks.specs.declared.work.Wanted.{Wanted}
use Rattle.cmd_tasks.specs.declared.work.State.{State}
use Rattle.cmd_tasks.specs.declared.work.State.TheVariants.{Counting}
use Rattle.cmd_tasks.specs.declared.work.Moved.{Moved}
use Rattle.cmd_tasks.specs.declared.work.Moved.TheVariants as m
use Rattle.cmd_tasks.specs.declared.work.Glance.TheVariants as g
use Rattle.cmd_tasks.proofs.Glances.{saw, saw_entry, looked_here, failed_here}

-- ---- what a step is, told or not

few : (n : ℕ) → leb 1001 n ≡ false → ((leb 1001 n ≡ true) × (1001 ≤ n)) ⊎ ((leb 1001 n ≡ false) × (n < 1001)) → n < 1001
few n e z = ⊎_elim (λ q. absurd (no (sym e ∙ q.0))) (λ q. q.1) z
  where
    no : false ≡ true → ⊥
    no e = cc

pub count_steps : (k low high : ℕ) (H H' : List Entry) (w : Wanted) (last : Option Tree) (n n' : ℕ) (item : Item) (page : Vec Version Global) (up : Option Tree)
    → IsWanted w → Glances k low high last H H' (g.Shown item page up) → Steps k low high (Counting w last n) H H' (count_to w item n' up)
count_steps k low high H H' w last n n' item page None wanted h = h.0
count_steps k low high H H' w last n n' item page (Some u) wanted h =
    elim (nat_le 1001 n') as (λ t. nat_le 1001 n' ≡ t → Steps k low high (Counting w last n) H H' (if t then m.Ends item (counted n') else m.Goes item (Counting w (Some u) n'))) [
      | true ↦ λ e. h.0
      | false ↦ λ e. (h.0, refl, (wanted, few n' e (leb_tells 1001 n')), h.1)
    ] refl

pub marked_steps : (k low high : ℕ) (H H' : List Entry) (w : State) (at : ℕ) (after up : Option Tree) (P : Reply → Type 0) (o : Moved) → H' ≡ H → at ≡ length H → EndsMarked at after up P o → Steps k low high w H H' o
marked_steps k low high H H' w at after up P (m.Goes i s) same here is = absurd is
marked_steps k low high H H' w at after up P (m.Ends i r) same here is = looked_here k low high H H' i at after up [] same here is.0
marked_steps k low high H H' w at after up P m.NoMemory same here is = absurd is

pub failed_steps : (k low high : ℕ) (H H' : List Entry) (w : State) (at before count : ℕ) (P : Reply → Type 0) (o : Moved) → H' ≡ H ++ Failed k before count ∷ [] → at ≡ length H → Rose before count → before ≡ low → count ≡ high
    → EndsSo (Faulted at before count) P o → Steps k low high w H H' o
failed_steps k low high H H' w at before count P (m.Goes i s) longer here rose low_is high_is is = absurd is
failed_steps k low high H H' w at before count P (m.Ends i r) longer here rose low_is high_is is = subst (Made k low high H H') (sym is.0) (failed_here k low high H H' at before count longer here rose low_is high_is)
failed_steps k low high H H' w at before count P m.NoMemory longer here rose low_is high_is is = absurd is

-- ---- what it means for the request, where told

-- why a write isn't made at this state of the store: no number is left, or else the collection doesn't live
abbrev pub IsNoWrite : Name → Base → ErrorItem → Type 0
IsNoWrite coll s error = ((s.next ≡ 2 ^ 63 - 1) × (error ≡ errors.versions_spent)) ⊎ ((s.next ≢ 2 ^ 63 - 1) × IsGone coll s × (error ≡ errors.no_collection coll))

-- a write that wasn't made for want of the collection had a number left
pub gone_not_spent : (at n : ℕ) → ◌≡◌ {A = WriteOutcome} (w.NoCollection at) (w.VersionsSpent n) → ⊥
gone_not_spent at n e = cc

pub marked_so : (coll : Name) (k : ℕ) (base : Base) (W : Type 0) (s : Sight) (error : ErrorItem) → W → IsNoWrite coll (now base coll s) error → IsMarked base coll k W s error
marked_so coll k base W s error writes cause = ⊎_elim (λ z. inl (writes, z.0, z.1)) (λ z. inr ((λ w. z.0), z.1, z.2)) cause

-- requests that end with their first accepted write
abbrev pub IsSingle : Job → Type 0
IsSingle (inserts ds ordered) = ⊥
IsSingle (finds_one f sort shows) = ⊤
IsSingle (finds f sort shows p) = ⊤
IsSingle (counts f) = ⊤
IsSingle (changes_one f sort doing form) = ⊤
IsSingle (changes_many f doing page) = ⊥
IsSingle creates = ⊤
IsSingle drops = ⊤
IsSingle names = ⊤

module _ (base : Base) (coll : Name) (k : ℕ) where
  pub looks_wrote : (f : FilterTree) (r : Rows) (from : Option Tree) (i : Item) → Looks base coll f r from i → one_if_wrote i ≡ 0
  looks_wrote f r from (Looked at after up shown) h = refl
  looks_wrote f r from (Wrote at) h = absurd h
  looks_wrote f r from (Lost at read found) h = absurd h
  looks_wrote f r from (Faulted at before count) h = absurd h

  pub find_one_accepts : (f : FilterTree) (sort : SortKeys) (shows : Shows) (s : List Sight) → IsPartOf base coll k (finds_one f sort shows) s → accepted s ≡ 0
  find_one_accepts f sort shows [] h = refl
  find_one_accepts f sort shows (s ∷ earlier) h = let a = find_one_accepts f sort shows earlier h.0 in let b = looks_wrote f _ _ s.item h.2.1 in omega arith

  pub find_accepts : (f : FilterTree) (sort : SortKeys) (shows : Shows) (p : Paging) (s : List Sight) → IsPartOf base coll k (finds f sort shows p) s → accepted s ≡ 0
  find_accepts f sort shows p [] h = refl
  find_accepts f sort shows p (s ∷ earlier) h = let a = find_accepts f sort shows p earlier h.0 in let b = looks_wrote f _ _ s.item h.2.1 in omega arith

  count_accepts : (f : FilterTree) (s : List Sight) → IsPartOf base coll k (counts f) s → accepted s ≡ 0
  count_accepts f [] h = refl
  count_accepts f (s ∷ earlier) h = let a = count_accepts f earlier h.0 in let b = looks_wrote f _ _ s.item h.2.1 in omega arith

  -- as long as one that ends with its first accepted write is under way, none was accepted
  pub accepts : (job : Job) → IsSingle job → (s : List Sight) → IsBegun base coll k job s → accepted s ≡ 0
  accepts (inserts ds ordered) one s h = absurd one
  accepts (finds_one f sort shows) one s h = find_one_accepts f sort shows s h.0
  accepts (finds f sort shows p) one s h = find_accepts f sort shows p s h.0
  accepts (counts f) one s h = count_accepts f s h.0
  accepts (changes_one f sort doing form) one s h = h.1.0
  accepts (changes_many f doing page) one s h = absurd one
  accepts creates one s h = ap accepted h.1
  accepts drops one s h = ap accepted h.1
  accepts names one s h = ap accepted h.1

  -- its refusal tells no more than the error
  single_tells : (job : Job) → IsSingle job → (s : Sight) (earlier : List Sight) (error : ErrorItem) (reply : Reply) → IsRefusal error reply → TellsStop base coll k job (s ∷ earlier) error reply
  single_tells (inserts ds ordered) one s earlier error reply h = absurd one
  single_tells (finds_one f sort shows) one s earlier error reply h = h
  single_tells (finds f sort shows p) one s earlier error reply h = h
  single_tells (counts f) one s earlier error reply h = h
  single_tells (changes_one f sort doing form) one s earlier error reply h = h
  single_tells (changes_many f doing page) one s earlier error reply h = absurd one
  single_tells creates one s earlier error reply h = h
  single_tells drops one s earlier error reply h = h
  single_tells names one s earlier error reply h = h

  -- a request that is under way may end for want of memory
  pub cut_off : (job : Job) (s : List Sight) → IsBegun base coll k job s → Serves base coll k job s (NoMemory (accepted s))
  cut_off job s h = inr (inr (inl h.0, refl))

  pub stops_wrote : (marks : Option Tree → Option Tree → Type 0) (to_write : Type 0) (i : Item) (s : Sight) (error : ErrorItem) → Stops base coll k marks to_write i s error → one_if_wrote i ≡ 0
  stops_wrote marks to_write (Looked at after up shown) s error h = refl
  stops_wrote marks to_write (Wrote at) s error h = absurd h
  stops_wrote marks to_write (Lost at read found) s error h = absurd h
  stops_wrote marks to_write (Faulted at before count) s error h = refl

  -- where a write comes next, what stops it stops the request
  pub stops_for : (marks marks' : Option Tree → Option Tree → Type 0) (to_write : Type 0) (i : Item) (s : Sight) (error : ErrorItem) → to_write → ((after up : Option Tree) → marks after up → marks' after up)
      → Stops base coll k marks ⊤ i s error → Stops base coll k marks' to_write i s error
  stops_for marks marks' to_write (Looked at after up shown) s error writes same h = (same after up h.0, h.1, ⊎_elim (λ z. inl (writes, z.1, z.2)) (λ z. inr ((λ w. z.0 tt), z.1, z.2)) h.2)
  stops_for marks marks' to_write (Wrote at) s error writes same h = absurd h
  stops_for marks marks' to_write (Lost at read found) s error writes same h = absurd h
  stops_for marks marks' to_write (Faulted at before count) s error writes same h = h

  -- a request that stops at an item: its error is told, or memory was wanting
  pub stop_serves : (job : Job) (earlier : List Sight) (s : Sight) (error : ErrorItem) (reply : Reply) → IsBegun base coll k job earlier
      → Stops base coll k (Marks base coll k job earlier) (IsToWrite base coll k job earlier) s.item s error
      → TellsStop base coll k job (s ∷ earlier) error reply ⊎ (reply ≡ NoMemory (accepted earlier)) → Serves base coll k job (s ∷ earlier) reply
  stop_serves job earlier s error reply begun stops tells = ⊎_elim
      (λ t. inr (inl (error, (begun.0, begun.1, stops), t)))
      (λ e. let b = stops_wrote _ _ s.item s error stops in let z : accepted earlier ≡ one_if_wrote s.item + accepted earlier = omega arith in inr (inr (inr (error, (begun.0, begun.1, stops)), e ∙ ap NoMemory z)))
      tells

  -- the same of one that ends with its first accepted write
  pub stopped_serves : (job : Job) → IsSingle job → (earlier : List Sight) (s : Sight) (error : ErrorItem) (reply : Reply) → IsBegun base coll k job earlier
      → Stops base coll k (Marks base coll k job earlier) (IsToWrite base coll k job earlier) s.item s error → Refuses error reply → Serves base coll k job (s ∷ earlier) reply
  stopped_serves job one earlier s error reply begun stops refuses = stop_serves job earlier s error reply begun stops
      (⊎_elim (λ r. inl (single_tells job one s earlier error reply r)) (λ e. inr (e ∙ ap NoMemory (sym (accepts job one earlier begun)))) refuses)

  pub failed_serves : (job : Job) → IsSingle job → (earlier : List Sight) (H H' : List Entry) (at before count : ℕ) (reply : Reply) → IsBegun base coll k job earlier → H' ≡ H ++ Failed k before count ∷ [] → at ≡ length H
      → Refuses (errors.store_fault before count) reply → Serves base coll k job (sight H' (Faulted at before count) ∷ earlier) reply
  failed_serves job one earlier H H' at before count reply begun longer here refuses = stopped_serves job one earlier (sight H' (Faulted at before count)) (errors.store_fault before count) reply begun (saw_entry H H' (Failed k before count) at longer here, refl) refuses

  pub failed_leads : (job : Job) → IsSingle job → (w : State) → asked w ≡ Some job → (earlier : List Sight) (H H' : List Entry) (at before count : ℕ) (o : Moved) → IsBegun base coll k job earlier
      → H' ≡ H ++ Failed k before count ∷ [] → at ≡ length H → EndsSo (Faulted at before count) (Refuses (errors.store_fault before count)) o → Leads base coll k H' w earlier o
  failed_leads job one w asks earlier H H' at before count (m.Goes i z) begun longer here is = absurd is
  failed_leads job one w asks earlier H H' at before count (m.Ends i r) begun longer here is = subst (λ (a : Option Job). IfSome a (λ j. Serves base coll k j (sight H' i ∷ earlier) r)) (sym asks)
      (subst (λ (z : Item). Serves base coll k job (sight H' z ∷ earlier) r) (sym is.0) (failed_serves job one earlier H H' at before count r begun longer here is.1))
  failed_leads job one w asks earlier H H' at before count m.NoMemory begun longer here is = absurd is

  -- the reply is the request's answer, or memory was wanting
  pub answered : (job : Job) (sights : List Sight) (reply : Reply) (P : Type 0) → IsPartOf base coll k job sights → accepted sights ≡ 0 → (P → Answers base coll k job sights reply)
      → P ⊎ (reply ≡ NoMemory 0) → Serves base coll k job sights reply
  answered job sights reply P part none told h = ⊎_elim (λ p. inl (part, told p)) (λ e. inr (inr (inl part, e ∙ ap NoMemory (sym none)))) h

  -- ---- listings

  pub count_ended : (w : Wanted) (last : Option Tree) (n : ℕ) (H' : List Entry) (earlier : List Sight) (item : Item) (r : Reply) → IsUnderWay base coll k (Counting w last n) earlier → StopsSo base coll k H' last item r
      → Serves base coll k (counts (filter_tree w.filter)) (sight H' item ∷ earlier) r
  count_ended w last n H' earlier item r way stops = stopped_serves (counts (filter_tree w.filter)) tt earlier (sight H' item) stops.0 r way.0
      (subst (λ (l : Option Tree). Stops base coll k (λ after up. (after ≡ l) × (up ≡ None)) ⊥ item (sight H' item) stops.0) way.1.0 stops.1) stops.2

  pub count_leads : (w : Wanted) (last : Option Tree) (n n' : ℕ) (H' : List Entry) (earlier : List Sight) (item : Item) (page : Vec Version Global) (up : Option Tree) → n' ≡ n + length page.items → IsUnderWay base coll k (Counting w last n) earlier
      → Sees base coll k H' (filter_tree w.filter) last (g.Shown item page up) → Leads base coll k H' (Counting w last n) earlier (count_to w item n' up)
  count_leads w last n n' H' earlier item page up sum way sees = parts up sees (way.0.0, way.0.1, subst (λ (l : Option Tree). IsLook base coll f l s) way.1.0 sees.0) all
    where
      f : FilterTree
      f = filter_tree w.filter

      s : Sight
      s = sight H' item

      all : n' ≡ length (shown base coll f (s ∷ earlier))
      all = let a = length-append (shown base coll f earlier) (shown_by base coll f s) in let b = ap length sees.1 in let c = length-map page.items found_row in let d = way.1.1 in omega arith

      parts : (up' : Option Tree) → Sees base coll k H' f last (g.Shown item page up') → IsPartOf base coll k (counts f) (s ∷ earlier) → n' ≡ length (shown base coll f (s ∷ earlier))
          → Leads base coll k H' (Counting w last n) earlier (count_to w item n' up')
      parts None z part all' = inl (part, (inl z.2, ap counted all'))
      parts (Some u) z part all' = elim (nat_le 1001 n') as (λ t. nat_le 1001 n' ≡ t → Leads base coll k H' (Counting w last n) earlier (if t then m.Ends item (counted n') else m.Goes item (Counting w (Some u) n'))) [
        | true ↦ λ e. inl (part, (inr (let l = leb-true 1001 n' e in omega arith), ap counted all'))
        | false ↦ λ e. ((part, (z.3, let l = few n' e (leb_tells 1001 n') in omega arith)), (sym z.2, all'))
      ] refl
