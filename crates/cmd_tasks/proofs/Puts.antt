-- The insertion of one document, of which the reply is at hand.
use Rattle.std.proofs.Common.{◌≡◌, ◌≢◌, ℕ, List, [], ◌∷◌, ◌++◌, take, length, Option, Some, None, refl, sym, ap, ◌∙◌, subst, inl, inr}
use Rattle.std.specs.Prelude.{⊤}
use Rattle.outside_io.specs.Causes.{Rose}
use Rattle.json_tree.specs.Tree.{Tree}
use Rattle.shred_cols.specs.Row.{id_of}
use Rattle.col_keeper.specs.Tables.{Name}
use Rattle.reply_env.specs.Messages as errors
use Rattle.reply_env.specs.declared.reply.ErrorItem.{ErrorItem}
use Rattle.reply_env.specs.declared.reply.Reply.{Reply}
use Rattle.store_core.specs.State.{State as Base, number_at}
use Rattle.store_core.specs.Journal.{replay}
use Rattle.store_core.specs.declared.entry.Entry.{Entry}
use Rattle.store_core.specs.declared.entry.Entry.TheVariants.{Changed, Failed}
use Rattle.store_core.specs.declared.entry.Change.TheVariants.{Insert}
use Rattle.cmd_tasks.specs.Trace.{sight}
use Rattle.cmd_tasks.specs.Served.{Stops}
use Rattle.cmd_tasks.specs.Insertions.{IsInserted, IsTaken}
use Rattle.cmd_tasks.specs.Looking.{Made, Refuses, IsLooked}
use Rattle.cmd_tasks.specs.Puts.{Puts, MarksPut, EndsPut}
use Rattle.cmd_tasks.specs.Moves.{EndsSo, EndsMarked}
use Rattle.cmd_tasks.specs.declared.trace.Item.{Item}
use Rattle.cmd_tasks.specs.declared.trace.Item.TheVariants.{Looked, Wrote, Lost, Faulted}
use Rattle.cmd_tasks.specs.declared.work.Moved.{Moved}
use Rattle.cmd_tasks.specs.declared.work.Moved.TheVariants as m
use Rattle.cmd_tasks.proofs.Glances.{saw, saw_before, saw_entry, looked_here, failed_stops}
use Rattle.cmd_tasks.proofs.Requests.{IsNoWrite, marked_so}

-- no number was read, and so one was found
pub found_one : (found : Option ℕ) → found ≢ None → (tx : ℕ) × (found ≡ Some tx)
found_one None n = absurd (n refl)
found_one (Some tx) n = (tx, refl)

-- ---- told or not

pub ends_puts : (k low high : ℕ) (H H' : List Entry) (item : Item) (P : Reply → Type 0) (o : Moved) → Made k low high H H' item → EndsSo item P o → Puts k low high H H' o
ends_puts k low high H H' item P (m.Goes i w) made is = absurd is
ends_puts k low high H H' item P (m.Ends i reply) made is = subst (Made k low high H H') (sym is.0) made
ends_puts k low high H H' item P m.NoMemory made is = absurd is

pub marked_puts : (k low high : ℕ) (H H' : List Entry) (at : ℕ) (after up : Option Tree) (P : Reply → Type 0) (o : Moved) → H' ≡ H → at ≡ length H → EndsMarked at after up P o → Puts k low high H H' o
marked_puts k low high H H' at after up P (m.Goes i w) same here is = absurd is
marked_puts k low high H H' at after up P (m.Ends i reply) same here is = looked_here k low high H H' i at after up [] same here is.0
marked_puts k low high H H' at after up P m.NoMemory same here is = absurd is

-- ---- where it is told

module _ (base : Base) (coll : Name) (k : ℕ) (d : Tree) where
  -- the write was accepted
  pub put_here : (H H' : List Entry) (at tx : ℕ) → H' ≡ H ++ Changed k coll (id_of d) (Insert d) None tx ∷ [] → at ≡ length H → number_at (replay base H) coll (id_of d) ≡ None → IsInserted base coll k d (sight H' (Wrote at))
  put_here H H' at tx longer here absent =
      let e : Entry = Changed k coll (id_of d) (Insert d) None tx in
      let past = saw_before H H' e at longer here in
      record {
        absent = ap (λ (l : List Entry). number_at (replay base l) coll (id_of d)) past ∙ absent;
        wrote = (ap Wrote (here ∙ sym (ap length past)), (tx, saw_entry H H' e at longer here));
      }

  -- its id is there
  pub taken_here : (H H' : List Entry) (at tx : ℕ) → H' ≡ H → at ≡ length H → number_at (replay base H) coll (id_of d) ≡ Some tx → IsTaken base coll k d tx (sight H' (Lost at 0 (Some tx)))
  taken_here H H' at tx same here there =
      let past = saw H H' at same here in
      record {
        item = ap (λ n. Lost n 0 (Some tx)) (here ∙ sym (ap length past));
        there = ap (λ (l : List Entry). number_at (replay base l) coll (id_of d)) past ∙ there;
      }

  -- a mark in the place of the write
  pub mark_stops : (H H' : List Entry) (at : ℕ) (item : Item) (error : ErrorItem) → H' ≡ H → at ≡ length H → IsLooked item at (Some (id_of d)) (Some (id_of d)) [] → IsNoWrite coll (replay base H) error
      → Stops base coll k (MarksPut d) ⊤ item (sight H' item) error
  mark_stops H H' at (Looked a from to pairs) error same here is cause =
      let past : take a H' ≡ H = saw H H' a same (is.0 ∙ here) in
      let back : replay base H ≡ replay base (take a H') = ap (replay base) (sym past) in
      ((is.1, is.2), is.3, marked_so coll k base ⊤ (sight H' (Looked a from to pairs)) error tt (subst (λ (s : Base). IsNoWrite coll s error) back cause))
  mark_stops H H' at (Wrote a) error same here is cause = absurd is
  mark_stops H H' at (Lost a read f) error same here is cause = absurd is
  mark_stops H H' at (Faulted a b c) error same here is cause = absurd is

  module _ (at_hand : Reply) where
    pub put_ends : (H H' : List Entry) (at tx : ℕ) (key : Tree) → key ≡ id_of d → H' ≡ H ++ Changed k coll key (Insert d) None tx ∷ [] → at ≡ length H → number_at (replay base H) coll key ≡ None
        → EndsPut base coll k H' d at_hand (m.Ends (Wrote at) at_hand)
    put_ends H H' at tx key key_is longer here absent = inl (put_here H H' at tx (longer ∙ ap (λ (t : Tree). H ++ Changed k coll t (Insert d) None tx ∷ []) key_is) here (subst (λ (t : Tree). number_at (replay base H) coll t ≡ None) key_is absent), refl)

    pub taken_ends : (H H' : List Entry) (at tx : ℕ) (o : Moved) → H' ≡ H → at ≡ length H → number_at (replay base H) coll (id_of d) ≡ Some tx → EndsSo (Lost at 0 (Some tx)) (Refuses (errors.already_exists (id_of d) tx)) o
        → EndsPut base coll k H' d at_hand o
    taken_ends H H' at tx (m.Goes i w) same here there is = absurd is
    taken_ends H H' at tx (m.Ends i reply) same here there is = inr (inl (tx, subst (λ (z : Item). IsTaken base coll k d tx (sight H' z)) (sym is.0) (taken_here H H' at tx same here there), is.1))
    taken_ends H H' at tx m.NoMemory same here there is = absurd is

    pub mark_ends : (H H' : List Entry) (at : ℕ) (after up : Tree) (error : ErrorItem) (o : Moved) → after ≡ id_of d → up ≡ id_of d → H' ≡ H → at ≡ length H → IsNoWrite coll (replay base H) error → EndsMarked at (Some after) (Some up) (Refuses error) o
        → EndsPut base coll k H' d at_hand o
    mark_ends H H' at after up error (m.Goes i w) after_is up_is same here cause is = absurd is
    mark_ends H H' at after up error (m.Ends i reply) after_is up_is same here cause is =
        inr (inr (error, mark_stops H H' at i error same here (subst (λ (t : Tree). IsLooked i at (Some (id_of d)) (Some t) []) up_is (subst (λ (t : Tree). IsLooked i at (Some t) (Some up) []) after_is is.0)) cause, is.1))
    mark_ends H H' at after up error m.NoMemory after_is up_is same here cause is = absurd is

    pub fault_ends : (H H' : List Entry) (at before count : ℕ) (o : Moved) → H' ≡ H ++ Failed k before count ∷ [] → at ≡ length H → EndsSo (Faulted at before count) (Refuses (errors.store_fault before count)) o
        → EndsPut base coll k H' d at_hand o
    fault_ends H H' at before count (m.Goes i w) longer here is = absurd is
    fault_ends H H' at before count (m.Ends i reply) longer here is =
        inr (inr (errors.store_fault before count, subst (λ (z : Item). Stops base coll k (MarksPut d) ⊤ z (sight H' z) (errors.store_fault before count)) (sym is.0) (failed_stops base coll k (MarksPut d) ⊤ H H' at before count longer here), is.1))
    fault_ends H H' at before count m.NoMemory longer here is = absurd is
