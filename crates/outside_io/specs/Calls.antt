-- The calls of an object in memory, of which those fail whose numbers are listed.
use Rattle.std.specs.Prelude.{◌≡◌, ℕ, ◌+◌, ◌-◌, ◌^◌, ◌<◌, List, [], ◌∷◌, length, min, nat_eq, count_by, Contains, refl}
use Rattle.std.specs.List.{range_with_len, list_any, sum_by}
use Rattle.std.proofs.Common.{ap, ◌∙◌, zero-add, arith}
use Rattle.std.proofs.lemmas.List.Sums.{sum_by-cons}

-- the numbers of the calls that fail, and how many calls were made
pub record CallsMade : Type 0 where
  pub fails : List ℕ
  pub made : ℕ

-- a count after one more, which stays at its end
abbrev pub one_more : ℕ → ℕ
one_more count = min (count + 1) (2 ^ 64 - 1)

-- the next call fails: its number, from 1, is listed
abbrev pub FailsNext : CallsMade → Type 0
FailsNext calls = Contains calls.fails (calls.made + 1)

-- how many of the first calls failed: those whose numbers, from 1, are listed
abbrev pub failed_of : List ℕ → ℕ → ℕ
failed_of fails made = count_by (λ number. list_any (λ listed. nat_eq listed number) fails) (range_with_len 1 made)

-- how many of the calls made so far failed
abbrev pub failed_calls : CallsMade → ℕ
failed_calls calls = failed_of calls.fails calls.made

-- after one more call
abbrev pub after_call : CallsMade → CallsMade
after_call calls = record calls { made = one_more calls.made }

-- where no number is listed no call fails
pub FailsNext-none : (calls : CallsMade) → calls.fails ≡ [] → FailsNext calls → ⊥
FailsNext-none calls none listed =
    let within : listed.0 < length calls.fails = listed.1 in
    omega (arith, within, ap length none)

no_failures : (numbers : List ℕ) → sum_by (λ number. 0) numbers ≡ 0
no_failures [] = refl
no_failures (number ∷ numbers) = sum_by-cons (λ n. 0) number numbers ∙ zero-add (sum_by (λ n. 0) numbers) ∙ no_failures numbers

pub failed_calls-none : (calls : CallsMade) → calls.fails ≡ [] → failed_calls calls ≡ 0
failed_calls-none calls none = ap (λ fails. failed_of fails calls.made) none ∙ no_failures (range_with_len 1 calls.made)
