-- A session behind whose opening nobody else wrote loses no write; and one under which the keeper's count didn't rise met no failed call.
use Rattle.std.proofs.Common.{◌≡◌, ◌≢◌, ◌⊎◌, ℕ, ◌+◌, ◌≤◌, List, [], ◌∷◌, ◌++◌, map, drop, length, None, sym, subst, ap, arith, inl, inr, length-append}
use Rattle.std.specs.List.{AllByRecursion as Each}
use Rattle.name_tables.specs.declared.code.Code.TheVariants.{StoreFault, ConcurrencyFailure}
use Rattle.outside_io.specs.Causes.{Rose}
use Rattle.col_keeper.specs.Tables.{Name}
use Rattle.reply_env.specs.Reply.{IsRefusal}
use Rattle.reply_env.specs.declared.reply.ErrorItem.{ErrorItem}
use Rattle.reply_env.specs.declared.reply.Reply.{Reply}
use Rattle.reply_env.specs.declared.reply.Reply.TheVariants as replies
use Rattle.store_core.specs.State.{State as Base}
use Rattle.store_core.specs.Counts.{AllBy}
use Rattle.store_core.specs.declared.entry.Entry.{Entry}
use Rattle.store_core.specs.declared.entry.Entry.TheVariants.{Opened}
use Rattle.cmd_tasks.specs.Trace.{Sight, sight, point}
use Rattle.cmd_tasks.specs.Jobs.{Job, inserts, finds_one, finds, counts, changes_one, changes_many, creates, drops, names, job_of}
use Rattle.cmd_tasks.specs.Served.{losses, IsPartOf, Serves, sights as sights_of}
use Rattle.cmd_tasks.specs.Session.{Exchange, Asking, asks_for, is_refused, is_unread, name_of, items, AreCounted, AreAnswered, Answered, IsSession}
use Rattle.cmd_tasks.specs.Undisturbed.{TellsOnly, IsFreeOf, collection_of, IsUnlost, IsUncontested, IsNoFailedCall, IsUnfailed, BlamesItself}
use Rattle.cmd_tasks.specs.declared.trace.Item.{Item}
use Rattle.cmd_tasks.proofs.Calm.{IsNoFault, HasNoFault, each_front, each_rest, each_map, each_turned, faultless, opened_late, journal_rest, points_late, calm_sights, faultless_sights, behind_opening}
use Rattle.cmd_tasks.proofs.Smooth.{Calm, no_losses, IsCalmTurn, many_calm, part_smooth, stopped_smooth}
use Rattle.cmd_tasks.proofs.Unfailed.{part_passed, stopped_passed}
use Rattle.cmd_tasks.proofs.Refusals.{update_own}
use Rattle.cmd_tasks.proofs.Errors.{IsPlain, TellsLosses, TellsFault, serves_own, one_own, same_own}

-- ---- errors of other codes

abbrev IsNoLoss : ErrorItem → Type 0
IsNoLoss e = e.code ≢ ConcurrencyFailure

abbrev IsNoStoreFault : ErrorItem → Type 0
IsNoStoreFault e = e.code ≢ StoreFault

plain_of_losses : IsPlain IsNoLoss
plain_of_losses = record {
  taken = λ id tx q. Prim.cc q;
  fault = λ fault. (update_own fault).1;
  sorted = λ q. Prim.cc q;
  full = λ q. Prim.cc q;
  spent = λ q. Prim.cc q;
  gone = λ coll q. Prim.cc q;
}

plain_of_faults : IsPlain IsNoStoreFault
plain_of_faults = record {
  taken = λ id tx q. Prim.cc q;
  fault = λ fault. (update_own fault).0;
  sorted = λ q. Prim.cc q;
  full = λ q. Prim.cc q;
  spent = λ q. Prim.cc q;
  gone = λ coll q. Prim.cc q;
}

any_fault : (k : ℕ) (sights : List Sight) → TellsFault IsNoLoss k sights
any_fault k [] = tt
any_fault k (s ∷ earlier) = λ before count e q. Prim.cc q

no_fault : (k : ℕ) (sights : List Sight) → Each HasNoFault sights → TellsFault IsNoStoreFault k sights
no_fault k [] none = tt
no_fault k (s ∷ earlier) none = λ before count e. absurd (none.0 k before count e)

module _ (base : Base) (coll : Name) (k : ℕ) where
  any_losses : (job : Job) (sights : List Sight) → TellsLosses IsNoStoreFault base coll k job sights
  any_losses (inserts ds ordered) sights = tt
  any_losses (finds_one f sort p) sights = tt
  any_losses (finds f sort look p) sights = tt
  any_losses (counts f) sights = tt
  any_losses (changes_one f sort doing form) sights = λ none four q. Prim.cc q
  any_losses (changes_many f doing page) sights = λ up q. Prim.cc q
  any_losses creates sights = tt
  any_losses drops sights = tt
  any_losses names sights = tt

  few : (sights : List Sight) → losses sights ≡ [] → length (losses sights) ≡ 4 → ⊥
  few sights none four = let l : length (losses sights) ≡ 0 = ap length none in omega (arith, l, four)

  -- none was lost
  unlosing : (n : ℕ) (job : Job) (sights : List Sight) → Calm base coll k n sights → IsPartOf base coll k job sights → TellsLosses IsNoLoss base coll k job sights
  unlosing n (inserts ds ordered) sights all part = tt
  unlosing n (finds_one f sort p) sights all part = tt
  unlosing n (finds f sort look p) sights all part = tt
  unlosing n (counts f) sights all part = tt
  unlosing n (changes_one f sort doing form) sights all part = λ none four. absurd (few sights (no_losses base coll k n f sort doing form sights all part none) four)
  unlosing n (changes_many f doing page) sights all part = λ up. absurd (subst (IsCalmTurn base coll k n) up (many_calm base coll k n f doing page sights all part))
  unlosing n creates sights all part = tt
  unlosing n drops sights all part = tt
  unlosing n names sights all part = tt

  served_unlost : (n : ℕ) (job : Job) (sights : List Sight) (reply : Reply) → Calm base coll k n sights → Serves base coll k job sights reply → Each (IsUnlost base coll k) sights
  served_unlost n job sights reply all (inl z) = part_smooth base coll k n job sights all z.0
  served_unlost n job sights reply all (inr (inl z)) = stopped_smooth base coll k n job sights z.0 all z.1
  served_unlost n job sights reply all (inr (inr (inl part, e))) = part_smooth base coll k n job sights all part
  served_unlost n job sights reply all (inr (inr (inr z, e))) = stopped_smooth base coll k n job sights z.0 all z.1

  pub served_uncontested : (n : ℕ) (job : Job) (sights : List Sight) (reply : Reply) → Calm base coll k n sights → Serves base coll k job sights reply → Each (IsUnlost base coll k) sights × IsFreeOf ConcurrencyFailure reply
  served_uncontested n job sights reply all h = (served_unlost n job sights reply all h, serves_own IsNoLoss plain_of_losses base coll k job sights reply (unlosing n job sights all) (any_fault k sights) h)

  served_passed : (job : Job) (sights : List Sight) (reply : Reply) → Each HasNoFault sights → Serves base coll k job sights reply → Each (λ s. IsNoFailedCall s.item) sights
  served_passed job sights reply none (inl z) = part_passed base coll k job sights z.0
  served_passed job sights reply none (inr (inl z)) = stopped_passed base coll k job sights z.0 none z.1
  served_passed job sights reply none (inr (inr (inl part, e))) = part_passed base coll k job sights part
  served_passed job sights reply none (inr (inr (inr z, e))) = stopped_passed base coll k job sights z.0 none z.1

  pub served_unfailed : (H : List Entry) (job : Job) (trace : List Item) (reply : Reply) → Each HasNoFault (sights_of H trace) → Serves base coll k job (sights_of H trace) reply → Each IsNoFailedCall trace × IsFreeOf StoreFault reply
  served_unfailed H job trace reply none h = (
    each_map (sight H) (λ s. IsNoFailedCall s.item) trace (each_turned (λ s. IsNoFailedCall s.item) (map (sight H) trace) (served_passed job (sights_of H trace) reply none h)),
    serves_own IsNoStoreFault plain_of_faults base coll k job (sights_of H trace) reply (λ part. any_losses job (sights_of H trace)) (no_fault k (sights_of H trace) none) h,
  )

-- ---- the exchanges of a session

-- the reply to a request that is refused by itself
blamed : (P : ErrorItem → Type 0) (plain : IsPlain P) (error : ErrorItem) (reply : Reply) → P error → IsRefusal error reply ⊎ (reply ≡ replies.NoMemory 0) → TellsOnly P reply
blamed P plain error reply own (inl h) = one_own P plain error None reply own h
blamed P plain error reply own (inr h) = same_own P plain reply (replies.NoMemory 0) h tt

module _ (base : Base) (H : List Entry) (k n : ℕ) where
  module _ (enough : n ≤ length H) (by : AllBy k (drop n H)) where
    one_uncontested : (x : Exchange) → Each (λ i. n ≤ point i) x.trace → (asking : Asking) → BlamesItself asking → Answered base H k x.moment x.ids asking x.trace x.reply → Each (IsUnlost base (collection_of asking) k) (sights_of H x.trace) × IsFreeOf ConcurrencyFailure x.reply
    one_uncontested x late (asks_for coll c) b h = served_uncontested base (name_of coll) k n (job_of x.moment x.ids c) (sights_of H x.trace) x.reply (calm_sights H k n enough by x.trace late) h
    one_uncontested x late (is_refused error) b h = (subst (λ t. Each (IsUnlost base [] k) (sights_of H t)) (sym h.0) tt, blamed IsNoLoss plain_of_losses error x.reply b.1 h.1)
    one_uncontested x late is_unread b h = (subst (λ t. Each (IsUnlost base [] k) (sights_of H t)) (sym h.0) tt, same_own IsNoLoss plain_of_losses x.reply (replies.NoMemory 0) h.1 tt)

    all_uncontested : (xs : List Exchange) → Each (λ i. n ≤ point i) (items xs) → Each (λ x. BlamesItself x.asking) xs → AreAnswered base H k xs → Each (IsUncontested base H k) xs
    all_uncontested [] late b h = tt
    all_uncontested (x ∷ xs) late b h = (one_uncontested x (each_front _ x.trace (items xs) late) x.asking b.0 h.0, all_uncontested xs (each_rest _ x.trace (items xs) late) b.1 h.1)

  module _ (none : Each IsNoFault (drop n H)) where
    one_unfailed : (x : Exchange) → Each (λ i. n ≤ point i) x.trace → (asking : Asking) → BlamesItself asking → Answered base H k x.moment x.ids asking x.trace x.reply → IsUnfailed x
    one_unfailed x late (asks_for coll c) b h = served_unfailed base (name_of coll) k H (job_of x.moment x.ids c) x.trace x.reply (faultless_sights H n none x.trace late) h
    one_unfailed x late (is_refused error) b h = (subst (Each IsNoFailedCall) (sym h.0) tt, blamed IsNoStoreFault plain_of_faults error x.reply b.0 h.1)
    one_unfailed x late is_unread b h = (subst (Each IsNoFailedCall) (sym h.0) tt, same_own IsNoStoreFault plain_of_faults x.reply (replies.NoMemory 0) h.1 tt)

    all_unfailed : (xs : List Exchange) → Each (λ i. n ≤ point i) (items xs) → Each (λ x. BlamesItself x.asking) xs → AreAnswered base H k xs → Each IsUnfailed xs
    all_unfailed [] late b h = tt
    all_unfailed (x ∷ xs) late b h = (one_unfailed x (each_front _ x.trace (items xs) late) x.asking b.0 h.0, all_unfailed xs (each_rest _ x.trace (items xs) late) b.1 h.1)

module _ (base : Base) (before more : List Entry) (k : ℕ) (xs : List Exchange) (h : IsSession base (before ++ Opened k ∷ more) k xs) where
  abbrev history : List Entry
  history = before ++ Opened k ∷ more

  -- all points stand behind the opening
  late : Each (λ i. length before + 1 ≤ point i) (items xs)
  late = let l = opened_late base before more k h.opened h.journal h.opens in points_late (length before + 1) (h.opened + 1) (items xs) (omega (arith, l)) h.ordered

  pub alone_uncontested : AllBy k more → Each (λ x. BlamesItself x.asking) xs → Each (IsUncontested base history k) xs
  alone_uncontested by b =
      let size : length history ≡ length before + length (Opened k ∷ more) = length-append before (Opened k ∷ more) in
      all_uncontested base history k (length before + 1) (omega (arith, size)) (subst (AllBy k) (sym (behind_opening before more k)) by) xs late b h.answered

  pub still_unfailed : (low high : ℕ) → AreCounted low high more → (Rose low high → ⊥) → Each (λ x. BlamesItself x.asking) xs → Each IsUnfailed xs
  still_unfailed low high counted still b =
      let journal = journal_rest base before more k h.journal in
      all_unfailed base history k (length before + 1) (subst (Each IsNoFault) (sym (behind_opening before more k)) (faultless journal.0 low high more journal.1 counted still)) xs late b h.answered
