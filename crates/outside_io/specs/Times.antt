-- The times that a clock gives.
use Rattle.std.specs.Prelude.{ℤ, pos, List, [], ◌∷◌}

-- the time that a list of times gives next
abbrev pub next_time : List ℤ → ℤ
next_time [] = pos 0
next_time (t ∷ ts) = t

-- what is left of the list behind it: its last time stays for ever
abbrev pub times_after : List ℤ → List ℤ
times_after [] = []
times_after (t ∷ []) = t ∷ []
times_after (t ∷ u ∷ ts) = u ∷ ts
