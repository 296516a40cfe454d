-- The limits of a document.
use Rattle.std.specs.Prelude.{ℕ, max, List, [], ◌∷◌, Bool, length, map, Option, Some, None, if◌then◌else◌, nat_lt, nat_eq}
use Rattle.std.specs.List.{list_any}
use Rattle.json_tree.specs.Tree.{Tree}
use Rattle.json_text.specs.Print.{capped, text_of}
use Rattle.doc_limits.specs.declared.limits.Broken.{Broken}
use Rattle.doc_limits.specs.Names.{names_in}
use Rattle.doc_limits.specs.Values.{values_in, levels, elements_count, members_count, text_bytes}
use Rattle.doc_limits.specs.Paths.{paths_in, path_text}

-- the greatest of numbers, 0 where there are none
abbrev pub greatest : List ℕ → ℕ
greatest [] = 0
greatest (n ∷ ns) = max n (greatest ns)

-- the bytes of the longest path to a value
abbrev pub longest_path : Tree → ℕ
longest_path t = greatest (map (λ p. length (path_text p)) (paths_in t))

-- whether a name is empty
abbrev pub has_empty_name : Tree → Bool
has_empty_name t = list_any (λ n. nat_eq (length n) 0) (names_in t)

-- a limit that is broken by a count over its bound
abbrev pub at_most : ℕ → ℕ → ℕ → Option Broken
at_most limit bound count = if nat_lt bound count then Some (record { limit = limit; bound = bound; found = capped count }) else None

-- a limit that is broken where something has no byte at all
abbrev pub at_least_one : ℕ → Bool → Option Broken
at_least_one limit is_empty = if is_empty then Some (record { limit = limit; bound = 1; found = 0 }) else None

abbrev pub first_of : List (Option Broken) → Option Broken
first_of [] = None
first_of (None ∷ bs) = first_of bs
first_of (Some b ∷ bs) = Some b

-- the first broken limit: bytes of the text, levels, bytes of the shortest name, of the longest name and of the
-- longest path, members of one object and of all, elements of one list, bytes of a text
abbrev pub broken : Tree → Option Broken
broken t =
    first_of
    (at_most 1 1000000 (length (text_of t))
    ∷ at_most 2 16 (levels t)
    ∷ at_least_one 3 (has_empty_name t)
    ∷ at_most 4 100 (greatest (map length (names_in t)))
    ∷ at_most 5 1000 (longest_path t)
    ∷ at_most 6 1000 (greatest (map members_count (values_in t)))
    ∷ at_most 7 2000 (length (names_in t))
    ∷ at_most 8 1000 (greatest (map elements_count (values_in t)))
    ∷ at_most 9 8000 (greatest (map text_bytes (values_in t)))
    ∷ [])
