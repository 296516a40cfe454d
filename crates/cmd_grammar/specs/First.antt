-- The first of several tests that fires.
use Rattle.std.specs.Prelude.{List, [], ◌∷◌, Option, None}
use Rattle.std.specs.Option.{option_or}

-- a test is an error, or none; the first error decides
abbrev pub first_of : {E : Type 0} → List (Option E) → Option E
first_of [] = None
first_of (test ∷ tests) = option_or test (first_of tests)

-- the first error that a test has for one of these
abbrev pub first_by : {X E : Type 0} → (X → Option E) → List X → Option E
first_by test [] = None
first_by test (x ∷ xs) = option_or (test x) (first_by test xs)
