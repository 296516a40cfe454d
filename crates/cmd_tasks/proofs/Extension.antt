-- A history may grow: what was served stays served, and a journal with one legal entry more is a journal.
use Rattle.std.proofs.Common.{◌≡◌, ℕ, ℤ, ◌+◌, ◌<◌, ◌≤◌, List, [], ◌∷◌, ◌++◌, map, reverse, length, cond, Some, None, refl, sym, ap, ◌∙◌, subst, arith, zero, suc, length-append}
use Rattle.std.specs.Prelude.{slice_get}
use Rattle.std.proofs.lemmas.List.{take-append-le}
use Rattle.json_tree.specs.Tree.{Tree}
use Rattle.col_keeper.specs.Tables.{Name}
use Rattle.store_core.specs.State.{State}
use Rattle.store_core.specs.Journal.{after, Legal, replay, IsJournal}
use Rattle.cmd_tasks.specs.Trace.{Sight, sight, IsWithin}
use Rattle.cmd_tasks.specs.Jobs.{job_of}
use Rattle.cmd_tasks.specs.Served.{Serves, IsServed}
use Rattle.cmd_grammar.specs.Commands.{CommandTree}
use Rattle.reply_env.specs.declared.reply.Reply.{Reply}
use Rattle.cmd_tasks.specs.Session.{Exchange, Asking, asks_for, is_refused, is_unread, name_of, Answered, AreWithin, is_work, places, items, AreAnswered, IsSession, NoWork}
use Rattle.store_core.specs.declared.entry.Entry.{Entry}
use Rattle.cmd_tasks.specs.declared.trace.Item.{Item}
use Rattle.cmd_tasks.specs.declared.trace.Item.TheVariants.{Looked, Wrote, Lost, Faulted}

-- the state after one list and then another
pub replay-append : (s : State) (xs ys : List Entry) → replay s (xs ++ ys) ≡ replay (replay s xs) ys
replay-append s [] ys = refl
replay-append s (x ∷ xs) ys = replay-append (after s x) xs ys

pub journal_append : (s : State) (xs ys : List Entry) → IsJournal s xs → IsJournal (replay s xs) ys → IsJournal s (xs ++ ys)
journal_append s [] ys h t = t
journal_append s (x ∷ xs) ys h t = (h.0, journal_append (after s x) xs ys h.1 t)

-- the beginning of a journal is a journal
pub journal_front : (s : State) (xs ys : List Entry) → IsJournal s (xs ++ ys) → IsJournal s xs
journal_front s [] ys h = tt
journal_front s (x ∷ xs) ys h = (h.0, journal_front (after s x) xs ys h.1)

-- the step lemma
pub journal_more : (s : State) (xs : List Entry) (e : Entry) → IsJournal s xs → Legal (replay s xs) e → IsJournal s (xs ++ e ∷ [])
journal_more s xs e h legal = journal_append s xs (e ∷ []) h (legal, tt)

pub get_more : {A : Type 0} (xs ys : List A) (n : ℕ) → n < length xs → slice_get (xs ++ ys) n ≡ slice_get xs n
get_more [] ys n h = absurd (omega arith)
get_more (x ∷ xs) ys zero h = refl
get_more (x ∷ xs) ys (suc n) h = get_more xs ys n (omega arith)

-- what an item saw is the same in every history that goes on
pub sight_more : (H more : List Entry) (i : Item) → IsWithin (length H) i → sight (H ++ more) i ≡ sight H i
sight_more H more (Looked at after up_to shown) h = ap (λ p. record { item = Looked at after up_to shown; past = p; entry = None }) (take-append-le at H more h)
sight_more H more (Wrote at) h =
    let p = take-append-le at H more (omega arith) in let e = get_more H more at h in
    λ j. record { item = Wrote at; past = p j; entry = e j }
sight_more H more (Lost at read found) h = ap (λ p. record { item = Lost at read found; past = p; entry = None }) (take-append-le at H more h)
sight_more H more (Faulted at before count) h =
    let p = take-append-le at H more (omega arith) in let e = get_more H more at h in
    λ j. record { item = Faulted at before count; past = p j; entry = e j }

pub sights_more : (H more : List Entry) (trace : List Item) → AreWithin (length H) trace → map (sight (H ++ more)) trace ≡ map (sight H) trace
sights_more H more [] h = refl
sights_more H more (i ∷ is) h = λ j. sight_more H more i h.0 j ∷ sights_more H more is h.1 j

-- what was served stays served
pub served_more : (base : State) (H more : List Entry) (coll : Name) (k : ℕ) (moment : ℤ) (ids : List Tree) (c : CommandTree) (trace : List Item) (reply : Reply)
    → AreWithin (length H) trace → IsServed base H coll k moment ids c trace reply → IsServed base (H ++ more) coll k moment ids c trace reply
served_more base H more coll k moment ids c trace reply w h = subst (λ (s : List Sight). Serves base coll k (job_of moment ids c) (reverse s) reply) (sym (sights_more H more trace w)) h

pub within_longer : (n m : ℕ) (is : List Item) → n ≤ m → AreWithin n is → AreWithin m is
within_longer n m [] le h = tt
within_longer n m (i ∷ is) le h = (each i h.0, within_longer n m is le h.1)
  where
    each : (x : Item) → IsWithin n x → IsWithin m x
    each (Looked at after up_to shown) t = omega arith
    each (Wrote at) t = omega arith
    each (Lost at read found) t = omega arith
    each (Faulted at before count) t = omega arith

within_front : (n : ℕ) (xs ys : List Item) → AreWithin n (xs ++ ys) → AreWithin n xs
within_front n [] ys h = tt
within_front n (x ∷ xs) ys h = (h.0, within_front n xs ys h.1)

within_rest : (n : ℕ) (xs ys : List Item) → AreWithin n (xs ++ ys) → AreWithin n ys
within_rest n [] ys h = h
within_rest n (x ∷ xs) ys h = within_rest n xs ys h.1

pub answered_more : (base : State) (H more : List Entry) (k : ℕ) (moment : ℤ) (ids : List Tree) (asking : Asking) (trace : List Item) (reply : Reply)
    → AreWithin (length H) trace → Answered base H k moment ids asking trace reply → Answered base (H ++ more) k moment ids asking trace reply
answered_more base H more k moment ids (asks_for coll c) trace reply w h = served_more base H more (name_of coll) k moment ids c trace reply w h
answered_more base H more k moment ids (is_refused error) trace reply w h = h
answered_more base H more k moment ids is_unread trace reply w h = h

pub all_answered_more : (base : State) (H more : List Entry) (k : ℕ) (xs : List Exchange) → AreWithin (length H) (items xs) → AreAnswered base H k xs → AreAnswered base (H ++ more) k xs
all_answered_more base H more k [] w h = tt
all_answered_more base H more k (x ∷ xs) w h = (
  answered_more base H more k x.moment x.ids x.asking x.trace x.reply (within_front (length H) x.trace (items xs) w) h.0,
  all_answered_more base H more k xs (within_rest (length H) x.trace (items xs) w) h.1,
)

pub places_more : (k n : ℕ) (H more : List Entry) → NoWork k more → places k n (H ++ more) ≡ places k n H
places_more k n [] [] none = refl
places_more k n [] (e ∷ es) none = ap (λ b. cond b (n ∷ places k (n + 1) es) (places k (n + 1) es)) none.0 ∙ places_more k (n + 1) [] es none.1
places_more k n (e ∷ H) more none = ap (λ (ps : List ℕ). cond (is_work k e) (n ∷ ps) ps) (places_more k (n + 1) H more none)

-- a session stays one in every longer history to which others alone have added
pub session_more : (base : State) (H more : List Entry) (k : ℕ) (xs : List Exchange) → IsJournal base (H ++ more) → NoWork k more → IsSession base H k xs → IsSession base (H ++ more) k xs
session_more base H more k xs journal none h = record {
  journal = journal;
  answered = all_answered_more base H more k xs h.within h.answered;
  opened = h.opened;
  opens = get_more_some H more h.opened _ h.opens;
  ordered = h.ordered;
  within = within_longer (length H) (length (H ++ more)) (items xs) (let e = length-append H more in omega arith) h.within;
  own = places_more k 0 H more none ∙ h.own;
}
  where
    get_more_some : {A : Type 0} (xs ys : List A) (n : ℕ) (x : A) → slice_get xs n ≡ Some x → slice_get (xs ++ ys) n ≡ Some x
    get_more_some [] ys n x e = cc
    get_more_some (a ∷ xs) ys zero x e = e
    get_more_some (a ∷ xs) ys (suc n) x e = get_more_some xs ys n x e
