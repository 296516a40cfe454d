-- How the commands on collections are answered: each has one sight.
use Rattle.std.proofs.Common.{◌≡◌, ℕ, ◌+◌, ◌≤◌, List, [], ◌∷◌, ◌++◌, length, None, Some, refl, sym, ap, ◌∙◌, subst, arith, inl, inr, ◌⊎◌, ⊎_elim}
use Rattle.col_keeper.specs.Tables.{Name, names_of}
use Rattle.reply_env.specs.Messages as errors
use Rattle.reply_env.specs.declared.reply.Reply.{Reply}
use Rattle.reply_env.specs.declared.reply.Reply.TheVariants.{Done, NoMemory}
use Rattle.store_core.specs.State.{State as Base, Lives, IsGone}
use Rattle.store_core.specs.Journal.{replay}
use Rattle.store_core.specs.declared.entry.Entry.{Entry}
use Rattle.store_core.specs.declared.entry.Entry.TheVariants.{Created, Dropped}
use Rattle.cmd_tasks.specs.Trace.{Sight, sight}
use Rattle.cmd_tasks.specs.Jobs.{creates, drops, names}
use Rattle.cmd_tasks.specs.Served.{IsPartOf, Serves, IsMark, IsMade, IsThere, IsOneTooMany, IsDropped, IsAbsent, TellsNames, accepted, one_if_wrote}
use Rattle.cmd_tasks.specs.Looking.{IsLooked, Refuses}
use Rattle.cmd_tasks.specs.Moves.{IsBegun}
use Rattle.cmd_tasks.specs.declared.trace.Item.{Item}
use Rattle.cmd_tasks.specs.declared.trace.Item.TheVariants.{Looked, Wrote, Lost, Faulted}
use Rattle.cmd_tasks.proofs.Glances.{saw, saw_before, saw_entry}
use Rattle.cmd_tasks.proofs.Requests.{answered}

-- a look at nothing saw the whole history, and wrote nothing
is_mark : (at : ℕ) (item : Item) → IsLooked item at None None [] → IsMark item
is_mark at (Looked a from to page) is = (is.1, is.2, is.3)
is_mark at (Wrote a) is = absurd is
is_mark at (Lost a read found) is = absurd is
is_mark at (Faulted a b c) is = absurd is

saw_all : (H H' : List Entry) (at : ℕ) (item : Item) → H' ≡ H → at ≡ length H → IsLooked item at None None [] → (sight H' item).past ≡ H
saw_all H H' at (Looked a from to page) same here is = saw H H' a same (is.0 ∙ here)
saw_all H H' at (Wrote a) same here is = absurd is
saw_all H H' at (Lost a read found) same here is = absurd is
saw_all H H' at (Faulted a b c) same here is = absurd is

mark_wrote : (at : ℕ) (item : Item) → IsLooked item at None None [] → one_if_wrote item ≡ 0
mark_wrote at (Looked a from to page) is = refl
mark_wrote at (Wrote a) is = absurd is
mark_wrote at (Lost a read found) is = absurd is
mark_wrote at (Faulted a b c) is = absurd is

module _ (base : Base) (coll : Name) (k : ℕ) (earlier : List Sight) (H H' : List Entry) (at : ℕ) where
  -- the state at a look at nothing
  at_mark : (item : Item) (P : Base → Type 0) → H' ≡ H → at ≡ length H → IsLooked item at None None [] → P (replay base H) → P (replay base (sight H' item).past)
  at_mark item P same here is p = subst (λ (l : List Entry). P (replay base l)) (sym (saw_all H H' at item same here is)) p

  none_accepted : (item : Item) → IsLooked item at None None [] → earlier ≡ [] → accepted (sight H' item ∷ earlier) ≡ 0
  none_accepted item is first = let a = mark_wrote at item is in let b = ap accepted first in omega arith

  -- ---- creations

  pub made_serves : IsBegun base coll k creates earlier → H' ≡ H ++ Created k coll ∷ [] → at ≡ length H → Serves base coll k creates (sight H' (Wrote at) ∷ earlier) Done
  made_serves begun longer here =
      let made : IsMade base coll k (sight H' (Wrote at)) = (ap Wrote (here ∙ sym (ap length (saw_before H H' (Created k coll) at longer here))), saw_entry H H' (Created k coll) at longer here) in
      inl ((begun.0, begun.1, inl made), inl (inl made, refl))

  pub there_serves : (item : Item) → IsBegun base coll k creates earlier → H' ≡ H → at ≡ length H → IsLooked item at None None [] → Lives coll (replay base H) → Serves base coll k creates (sight H' item ∷ earlier) Done
  there_serves item begun same here is lives =
      let there : IsThere base coll k (sight H' item) = (is_mark at item is, at_mark item (Lives coll) same here is lives) in
      inl ((begun.0, begun.1, inr (inl there)), inl (inr there, refl))

  pub many_serves : (item : Item) (reply : Reply) → IsBegun base coll k creates earlier → H' ≡ H → at ≡ length H → IsLooked item at None None [] → IsGone coll (replay base H) → 100 ≤ length (replay base H).collections
      → Refuses errors.too_many_collections reply → Serves base coll k creates (sight H' item ∷ earlier) reply
  many_serves item reply begun same here is gone many refuses =
      let too : IsOneTooMany base coll k (sight H' item) = (is_mark at item is, at_mark item (IsGone coll) same here is gone, at_mark item (λ s. 100 ≤ length s.collections) same here is many) in
      answered base coll k creates (sight H' item ∷ earlier) reply _ (begun.0, begun.1, inr (inr too)) (none_accepted item is begun.1) (λ r. inr (too, r)) refuses

  -- ---- deletions

  pub dropped_serves : IsBegun base coll k drops earlier → H' ≡ H ++ Dropped k coll ∷ [] → at ≡ length H → Serves base coll k drops (sight H' (Wrote at) ∷ earlier) Done
  dropped_serves begun longer here =
      let dropped : IsDropped base coll k (sight H' (Wrote at)) = (ap Wrote (here ∙ sym (ap length (saw_before H H' (Dropped k coll) at longer here))), saw_entry H H' (Dropped k coll) at longer here) in
      inl ((begun.0, begun.1, inl dropped), (inl dropped, refl))

  pub absent_serves : (item : Item) → IsBegun base coll k drops earlier → H' ≡ H → at ≡ length H → IsLooked item at None None [] → IsGone coll (replay base H) → Serves base coll k drops (sight H' item ∷ earlier) Done
  absent_serves item begun same here is gone =
      let absent : IsAbsent base coll k (sight H' item) = (is_mark at item is, at_mark item (IsGone coll) same here is gone) in
      inl ((begun.0, begun.1, inr absent), (inr absent, refl))

  -- ---- names

  pub names_serves : (item : Item) (reply : Reply) (told : List Name) → IsBegun base coll k names earlier → H' ≡ H → at ≡ length H → IsLooked item at None None [] → told ≡ names_of (replay base H).collections
      → TellsNames told reply ⊎ (reply ≡ NoMemory 0) → Serves base coll k names (sight H' item ∷ earlier) reply
  names_serves item reply told begun same here is are tells =
      let mark = is_mark at item is in
      answered base coll k names (sight H' item ∷ earlier) reply _ (begun.0, begun.1, mark) (none_accepted item is begun.1)
      (λ t. (mark, subst (λ (l : List Name). TellsNames l reply) (are ∙ ap (λ (l : List Entry). names_of (replay base l).collections) (sym (saw_all H H' at item same here is))) t)) tells
