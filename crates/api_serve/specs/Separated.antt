-- Bytes that hold no separator.
use Rattle.std.specs.Prelude.{ℕ, Bool, not, ◌==◌, List}
use Rattle.std.specs.List.{list_all}

-- the byte stands nowhere in these
abbrev pub is_free_of : ℕ → List ℕ → Bool
is_free_of byte bytes = list_all (λ b. not (b == byte)) bytes
