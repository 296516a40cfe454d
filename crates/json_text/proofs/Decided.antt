-- Every text reads or has a fault.
use Rattle.std.proofs.Common.{◌≡◌, ℕ, zero, suc, ◌+◌, ◌-◌, ◌<◌, ◌≤◌, List, [], ◌∷◌, length, take, Bool, true, false, cond, ◌⊎◌, inl, inr, refl, sym, ap, ◌∙◌, arith, subst}
use Rattle.std.proofs.lemmas.Bool.{true≢false, cases_lt}
use Rattle.std.proofs.lemmas.Str.{IsUtf8-nil, IsUtf8-from_is_utf8, is_utf8-from_IsUtf8}
use Rattle.std.specs.Str.{IsUtf8, is_utf8, IsValidUpTo}
use Rattle.json_tree.specs.Tree.{Tree}
use Rattle.json_text.specs.Token.{end}
use Rattle.json_text.specs.Lex.{is_blank, token_at, tokens_from, tokens}
use Rattle.json_text.specs.Grammar.{Reads}
use Rattle.json_text.specs.FaultKinds.{syntax, too_deep, out_of_range}
use Rattle.json_text.specs.Fault.{IsFault}
use Rattle.json_text.specs.declared.read.TextFault.{TextFault}
use Rattle.json_text.specs.declared.read.TextFault.TheVariants.{Syntax, NotUtf8, Number, TooDeep, NoMemory}
use Rattle.json_text.specs.Machine.{State, Step, more, done, fault, step, End, built, refused, unended, then_run, run, trees, start}
use Rattle.json_text.proofs.Turns.{end_is_last}
use Rattle.json_text.proofs.RunSpells.{reads_from_run, fault_from_run}

-- ---- a run ends

abbrev Ended : End Tree → Type 0
Ended unended = ⊥
Ended e = Unit {0}

ended_step : (st : Step Tree) (at : ℕ) (k : State Tree → End Tree) → ((s : State Tree) → st ≡ more s → Ended (k s)) → Ended (then_run st at k)
ended_step (more s) at k h = h s refl
ended_step (done v) at k h = tt
ended_step (fault f) at k h = tt

ended_run : (left at : ℕ) (bytes : List ℕ) (s : State Tree) → Ended (run trees s (tokens_from left at bytes))
unfolding tokens_from run
ended_run left at [] s = ended_step (step trees s end) at _ (λ next e. absurd (end_is_last trees s next e))
ended_run (suc left) at (x ∷ xs) s = ended_run left (at + 1) xs s
ended_run zero at (x ∷ xs) s =
    let blank = ended_run 0 (at + 1) xs s in
    let rest = λ (next : State Tree). ended_run (length xs - length (token_at (x ∷ xs)).1) (at + 1) xs next in
    by (is_blank x) blank rest
  where
    by : (b : Bool) → Ended (run trees s (tokens_from 0 (at + 1) xs))
        → ((next : State Tree) → Ended (run trees next (tokens_from (length xs - length (token_at (x ∷ xs)).1) (at + 1) xs)))
        → Ended (run trees s (cond b (tokens_from 0 (at + 1) xs) (record { at = at; token = (token_at (x ∷ xs)).0 } ∷ tokens_from (length xs - length (token_at (x ∷ xs)).1) (at + 1) xs)))
    by true blank rest = blank
    by false blank rest = ended_step (step trees s (token_at (x ∷ xs)).0) at _ (λ next _. rest next)

-- ---- the longest front that is UTF-8

record LongestTo (bytes : List ℕ) (n k : ℕ) : Type 0 where
  within : k ≤ n
  front : IsUtf8 (take k bytes)
  longest : (m : ℕ) → k < m → m ≤ n → IsUtf8 (take m bytes) → ⊥

longest_to : (bytes : List ℕ) (n : ℕ) → (k : ℕ) × LongestTo bytes n k
longest_to bytes zero = (0, record { within = omega arith; front = IsUtf8-nil; longest = λ m h l u. absurd (omega arith) })
longest_to bytes (suc n) =
    let shorter = longest_to bytes n in
    by shorter (is_utf8 (take (suc n) bytes)) refl
  where
    by : ((k : ℕ) × LongestTo bytes n k) → (b : Bool) → is_utf8 (take (suc n) bytes) ≡ b → (k : ℕ) × LongestTo bytes (suc n) k
    by shorter true e = (suc n, record { within = omega arith; front = IsUtf8-from_is_utf8 _ e; longest = λ m h l u. absurd (omega arith) })
    by shorter false e = (
      shorter.0,
      record {
        within = omega (arith, shorter.1.within);
        front = shorter.1.front;
        longest = λ m h l u. elim (cases_lt n m) [
          | inl over ↦ let same : m ≡ suc n = omega arith in absurd (true≢false (sym (is_utf8-from_IsUtf8 _ (subst (λ m. IsUtf8 (take m bytes)) same u)) ∙ e))
          | inr under ↦ shorter.1.longest m h under u
        ];
      },
    )

all_taken : (bytes : List ℕ) (n : ℕ) → length bytes ≤ n → take n bytes ≡ bytes
all_taken [] zero h = refl
all_taken [] (suc n) h = refl
all_taken (x ∷ xs) zero h = absurd (omega arith)
all_taken (x ∷ xs) (suc n) h = ap (λ l. x ∷ l) (all_taken xs n (omega arith))

some_front : (bytes : List ℕ) → (IsUtf8 bytes → ⊥) → (n : ℕ) × IsValidUpTo bytes n
some_front bytes never =
    let f = longest_to bytes (length bytes) in (
      f.0,
      record {
        short = elim (cases_lt f.0 (length bytes)) [
          | inl below ↦ below
          | inr all ↦ absurd (never (subst IsUtf8 (all_taken bytes f.0 all) f.1.front))
        ];
        front = f.1.front;
        longest = λ m h u. elim (cases_lt (length bytes) m) [
          | inl over ↦ never (subst IsUtf8 (all_taken bytes m (omega arith)) u)
          | inr within ↦ f.1.longest m h within u
        ];
      },
    )

-- ---- the law

-- the bytes spell a value, or have a fault other than want of memory
abbrev Decided : List ℕ → Type 0
Decided bytes = ((v : Tree) × Reads bytes v) ⊎ ((e : TextFault) × IsFault bytes e × (e ≡ NoMemory → ⊥))

by_run : (bytes : List ℕ) → IsUtf8 bytes → (e : End Tree) → run trees start (tokens bytes) ≡ e → Ended e → Decided bytes
by_run bytes u (built v) e h = inl (v, reads_from_run bytes v u e)
by_run bytes u (refused syntax at) e h = inr (Syntax at, fault_from_run bytes syntax at u e, λ f. cc f)
by_run bytes u (refused too_deep at) e h = inr (TooDeep at, fault_from_run bytes too_deep at u e, λ f. cc f)
by_run bytes u (refused out_of_range at) e h = inr (Number at, fault_from_run bytes out_of_range at u e, λ f. cc f)
by_run bytes u unended e h = absurd h

pub decided : (bytes : List ℕ) → Decided bytes
decided bytes = by (is_utf8 bytes) refl
  where
    by : (b : Bool) → is_utf8 bytes ≡ b → Decided bytes
    by true e = by_run bytes (IsUtf8-from_is_utf8 bytes e) (run trees start (tokens bytes)) refl (ended_run 0 0 bytes start)
    by false e =
        let never : IsUtf8 bytes → ⊥ = λ u. true≢false (sym (is_utf8-from_IsUtf8 bytes u) ∙ e) in
        let f = some_front bytes never in
        inr (NotUtf8 f.0, record { not_utf8 = never; longest = f.1 }, λ g. cc g)
