-- A session begins with its entry.
use Rattle.std.proofs.Common.{◌≡◌, ℕ, ◌+◌, ◌<◌, ◌≤◌, List, [], ◌∷◌, ◌++◌, length, Some, false, refl, arith, ne_eqb}
use Rattle.std.specs.Prelude.{slice_get, ◌==◌}
use Rattle.store_core.specs.State.{State}
use Rattle.store_core.specs.Journal.{after, IsJournal}
use Rattle.store_core.specs.Counts.{opened_in}
use Rattle.store_core.specs.declared.entry.Entry.{Entry}
use Rattle.store_core.specs.declared.entry.Entry.TheVariants.{Opened, Created, Dropped, Changed, Failed}
use Rattle.cmd_tasks.specs.Session.{NoWork, IsSession}
use Rattle.cmd_tasks.proofs.Extension.{journal_front, places_more}

not_it : (by sessions more k : ℕ) → by < sessions → sessions + more ≤ k → (by == k) ≡ false
not_it by sessions more k l m = ne_eqb by k (λ e. omega arith)

-- no entry is by a session that isn't open yet
idle : (s : State) (k : ℕ) (H : List Entry) → IsJournal s H → s.sessions + opened_in H ≤ k → NoWork k H
idle s k [] j l = tt
idle s k (Opened n ∷ H) j l = (refl, idle (after s (Opened n)) k H j.1 (omega arith))
idle s k (Created by coll ∷ H) j l = (not_it by s.sessions (opened_in H) k j.0.0 l, idle (after s (Created by coll)) k H j.1 l)
idle s k (Dropped by coll ∷ H) j l = (not_it by s.sessions (opened_in H) k j.0.0 l, idle (after s (Dropped by coll)) k H j.1 l)
idle s k (Changed by coll id change before tx ∷ H) j l = (not_it by s.sessions (opened_in H) k j.0.0 l, idle (after s (Changed by coll id change before tx)) k H j.1 l)
idle s k (Failed by before count ∷ H) j l = (not_it by s.sessions (opened_in H) k j.0.0 l, idle (after s (Failed by before count)) k H j.1 l)

idle_append : (k : ℕ) (xs ys : List Entry) → NoWork k xs → NoWork k ys → NoWork k (xs ++ ys)
idle_append k [] ys p q = q
idle_append k (x ∷ xs) ys p q = (p.0, idle_append k xs ys p.1 q)

at_end : {A : Type 0} (xs : List A) (a : A) → slice_get (xs ++ a ∷ []) (length xs) ≡ Some a
at_end [] a = refl
at_end (x ∷ xs) a = at_end xs a

pub session_opens : (base : State) (H : List Entry) (k : ℕ) → base.sessions ≡ 0 → k ≡ opened_in H → IsJournal base (H ++ Opened k ∷ []) → IsSession base (H ++ Opened k ∷ []) k []
session_opens base H k none is j = record {
  journal = j;
  answered = tt;
  opened = length H;
  opens = at_end H (Opened k);
  ordered = tt;
  within = tt;
  own = places_more k 0 [] (H ++ Opened k ∷ []) (idle_append k H (Opened k ∷ []) (idle base k H (journal_front base H (Opened k ∷ []) j) (omega (arith, none, is))) (refl, tt));
}
