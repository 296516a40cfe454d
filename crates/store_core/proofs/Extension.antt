-- What was there stays when entries are appended.
use Rattle.std.proofs.Common.{◌≡◌, ℕ, ◌<◌, ◌≤◌, zero, suc, List, [], ◌∷◌, ◌++◌, length, refl, ap, arith}
use Rattle.std.specs.Prelude.{slice_get}
use Rattle.std.proofs.lemmas.List.{take-append-le}
use Rattle.store_core.specs.State.{State}
use Rattle.store_core.specs.Journal.{after, replay, IsJournal, state_at}
use Rattle.store_core.specs.declared.entry.Entry.{Entry}

pub state_stays : (start : State) (journal more : List Entry) (n : ℕ) → n ≤ length journal → state_at start (journal ++ more) n ≡ state_at start journal n
state_stays start journal more n le = ap (replay start) (take-append-le n journal more le)

pub entry_stays : (journal more : List Entry) (n : ℕ) → n < length journal → slice_get (journal ++ more) n ≡ slice_get journal n
entry_stays [] more n h = absurd (omega arith)
entry_stays (e ∷ es) more zero h = refl
entry_stays (e ∷ es) more (suc n) h = entry_stays es more n (omega arith)

pub journal_front : (start : State) (journal more : List Entry) → IsJournal start (journal ++ more) → IsJournal start journal
journal_front start [] more h = tt
journal_front start (e ∷ es) more h = (h.0, journal_front (after start e) es more h.1)
