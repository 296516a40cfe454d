-- What a table of names keeps.
use Rattle.std.specs.Prelude.{ℕ, Bool, true, not, ◌&&◌, List, [], ◌∷◌}
use Rattle.std.specs.List.{list_any}
use Rattle.std.specs.Str.{bytes_eq}

-- no two rows are the same
abbrev pub all_distinct : List (List ℕ) → Bool
all_distinct [] = true
all_distinct (row ∷ rows) = not (list_any (bytes_eq row) rows) && all_distinct rows
