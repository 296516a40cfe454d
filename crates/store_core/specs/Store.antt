-- A store as contracts see it.
use Rattle.std.specs.Prelude.{◌≡◌, ℕ, ◌+◌, ◌^◌, ◌<◌, ◌≤◌, List, Option, Some, refl}
use Rattle.std.specs.Option.{option_map, ForSome}
use Rattle.std.specs.Coded.{Coded, coded×, coded_ℕ, coded_list, coded_option, code_by}
use Rattle.col_keeper.specs.Tables.{Tables, AreApart}
use Rattle.store_core.specs.State.{State, IsOld, start_of, tables_of, state_code}
use Rattle.store_core.specs.Journal.{replay, IsJournal}
use Rattle.store_core.specs.Counts.{faults_after, opened_in, writes_in, AllBelow}
use Rattle.store_core.specs.declared.entry.Entry.{Entry}

-- a keeper, the keeper as it was when the journal began, the state then where it told its tables, the number of the
-- next write then, and the journal
pub record Stored (K : Type 0) : Type 0 where
  pub keeper : K
  pub base : K
  pub start : Option State
  pub first : ℕ
  pub journal : List Entry

abbrev pub stored_code : {K : Type 0} → Coded K → Coded Entry → Coded (Stored K)
stored_code {K = K} k e = code_by (K × (K × (Option State × (ℕ × List Entry)))) (coded× k (coded× k (coded× (coded_option state_code) (coded× coded_ℕ (coded_list e))))) (λ s. (s.keeper, (s.base, (s.start, (s.first, s.journal))))) (λ p. record { keeper = p.0; base = p.1.0; start = p.1.1.0; first = p.1.1.1.0; journal = p.1.1.1.1 }) (λ _. refl)

module _ {K : Type 0} where
  -- the number of the next write
  abbrev pub next_of : Stored K → ℕ
  next_of s = s.first + writes_in s.journal

  -- a fact on the state after the whole journal, where told
  abbrev pub AtState : Stored K → (State → Type 0) → Type 0
  AtState s P = ForSome s.start (λ b. P (replay b s.journal))

  -- the entries are legal in their turn, and at the beginning no number stood that was still to come, where told
  abbrev pub IsLawful : Stored K → Type 0
  IsLawful s = ForSome s.start (λ b. IsJournal b s.journal × IsOld b)

  -- the journals begin at one keeper, in one state
  abbrev pub SameBase : Stored K → Stored K → Type 0
  SameBase old new = (new.base ≡ old.base) × (new.start ≡ old.start) × (new.first ≡ old.first)

-- how a journal begins whose first write has this number, the keeper having so many faults
pub record Begins (first count : ℕ) (start : State) : Type 0 where
  pub next : start.next ≡ first
  pub none_open : start.sessions ≡ 0
  pub count_is : start.faults ≡ count
  pub old : IsOld start
  pub apart : AreApart start.collections

-- the keeper's tables are the replay of the journal, which is legal; the counts are those of the journal
pub record IsHistory (start : Option State) (first count : ℕ) (journal : List Entry) (told : Option Tables) (failed : ℕ) : Type 0 where
  pub tables_are : told ≡ option_map (λ b. tables_of (replay b journal)) start
  pub begins : ForSome start (Begins first count)
  pub legal : ForSome start (λ b. IsJournal b journal)
  pub known : AllBelow (opened_in journal) journal
  pub counted : faults_after count journal ≤ failed
  pub from_one : 1 ≤ first
  pub low : first + writes_in journal < 2 ^ 63

module _ {K : Type 0} (tables : K → Option Tables) (failed : K → ℕ) where
  -- the state in which a journal of this keeper begins, where told
  abbrev pub told_start : K → Option State
  told_start base = option_map (start_of (failed base)) (tables base)

  -- the keeper's tables are the replay of the journal from the base, where told
  pub record IsKept (s : Stored K) : Type 0 where
    pub start_is : s.start ≡ told_start s.base
    pub history : IsHistory s.start s.first (failed s.base) s.journal (tables s.keeper) (failed s.keeper)
