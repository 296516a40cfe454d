-- What an object shows: its bytes, if it tells them (none where it is untold), and its counts.
use Rattle.std.specs.Prelude.{◌≡◌, ◌⊎◌, ℕ, ◌≤◌, ◌<◌, List, [], ◌++◌, Option, Some, None, refl}
use Rattle.std.specs.Option.{option_map, ForSome}
use Rattle.std.proofs.Common.{ap, sym, ◌∙◌, append_assoc, arith, inl, inr}
use Rattle.std.proofs.lemmas.List.{append-nil}
use Rattle.outside_io.specs.Causes.{Rose, Rose-earlier}

-- these bytes, and then those that are left, where told
abbrev pub then_left : List ℕ → Option (List ℕ) → Option (List ℕ)
then_left bytes left = option_map (λ xs. bytes ++ xs) left

-- the bytes taken so far, and then these, where told
abbrev pub taken_then : Option (List ℕ) → List ℕ → Option (List ℕ)
taken_then taken bytes = option_map (λ xs. xs ++ bytes) taken

-- how many bytes a call may move: at most as many as there is room for, and one at least if there is room
abbrev pub IsCount : ℕ → ℕ → Type 0
IsCount n room = (n ≤ room) × (0 < room → 0 < n)

-- two reads are one
pub then_left-append : (xs ys : List ℕ) (left : Option (List ℕ)) → then_left (xs ++ ys) left ≡ then_left xs (then_left ys left)
then_left-append xs ys None = refl
then_left-append xs ys (Some zs) = ap (λ (l : List ℕ). Some l) (append_assoc xs ys zs)

-- a read of nothing leaves all
pub then_left-nil : (left : Option (List ℕ)) → then_left [] left ≡ left
then_left-nil None = refl
then_left-nil (Some zs) = refl

-- where nothing is left after these bytes, these were all
pub then_left-all : (xs : List ℕ) (before after : Option (List ℕ)) → before ≡ then_left xs after → ForSome after (λ ys. ys ≡ []) → ForSome before (λ ys. ys ≡ xs)
then_left-all xs None after told ended ys is = cc
then_left-all xs (Some zs) None told ended ys is = cc
then_left-all xs (Some zs) (Some rest) told ended ys is =
    let none : rest ≡ [] = ended rest refl in
    let all : ys ≡ xs ++ rest = cc in
    all ∙ ap (λ l. xs ++ l) none ∙ append-nil xs

-- two writes are one
pub taken_then-append : (taken : Option (List ℕ)) (xs ys : List ℕ) → taken_then taken (xs ++ ys) ≡ taken_then (taken_then taken xs) ys
taken_then-append None xs ys = refl
taken_then-append (Some zs) xs ys = ap (λ (l : List ℕ). Some l) (sym (append_assoc zs xs ys))

-- a write of nothing takes nothing
pub taken_then-nil : (taken : Option (List ℕ)) → taken_then taken [] ≡ taken
taken_then-nil None = refl
taken_then-nil (Some zs) = ap (λ (l : List ℕ). Some l) (append-nil zs)

-- what a source shows, or the reading half of an object that reads and writes: the bytes given so far and those left, where told, and the count of its faults
pub record Reading : Type 0 where
  pub given : Option (List ℕ)
  pub left : Option (List ℕ)
  pub failed : ℕ

-- what a sink shows, or the writing half: the bytes taken so far, where told, and the counts of its faults and of its answers Ended
pub record Writing : Type 0 where
  pub taken : Option (List ℕ)
  pub failed : ℕ
  pub ended : ℕ

-- the halves of an object that has none
abbrev pub no_reading : Reading
no_reading = record { given = None; left = None; failed = 0 }

abbrev pub no_writing : Writing
no_writing = record { taken = None; failed = 0; ended = 0 }

-- between two moments these bytes were taken, where told, and no others
abbrev pub Takes : Writing → List ℕ → Writing → Type 0
Takes before bytes now = now.taken ≡ taken_then before.taken bytes

-- a write was hindered: it failed, or nothing more was taken
abbrev pub IsHindered : Writing → Writing → Type 0
IsHindered before now = Rose before.failed now.failed ⊎ Rose before.ended now.ended

-- no count of a sink falls
abbrev pub CountsGrow : Writing → Writing → Type 0
CountsGrow before now = (before.failed ≤ now.failed) × (before.ended ≤ now.ended)

-- two spells of writing are one
pub Takes-append : (before mid now : Writing) (xs ys : List ℕ) → Takes before xs mid → Takes mid ys now → Takes before (xs ++ ys) now
Takes-append before mid now xs ys first more = more ∙ ap (λ t. taken_then t ys) first ∙ sym (taken_then-append before.taken xs ys)

pub CountsGrow-then : (before mid now : Writing) → CountsGrow before mid → CountsGrow mid now → CountsGrow before now
CountsGrow-then before mid now first more = (omega (arith, first.0, more.0), omega (arith, first.1, more.1))

-- a write that was hindered since a later moment was so since an earlier one
pub IsHindered-earlier : (before mid now : Writing) → CountsGrow before mid → IsHindered mid now → IsHindered before now
IsHindered-earlier before mid now grows (inl rose) = inl (Rose-earlier before.failed mid.failed now.failed grows.0 rose)
IsHindered-earlier before mid now grows (inr rose) = inr (Rose-earlier before.ended mid.ended now.ended grows.1 rose)
