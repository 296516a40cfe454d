-- Versions under their ids.
use Rattle.std.specs.Prelude.{Bool, true, not, List, [], ◌∷◌, Option, Some, None}
use Rattle.std.specs.List.{filter}
use Rattle.std.specs.Ordering.{eq_by_cmp, is_lt}
use Rattle.std.specs.FinMap.Entries.{find, put, where_key, is_sorted}
use Rattle.json_tree.specs.Tree.{Tree}
use Rattle.json_tree.specs.Id.{id_cmp}
use Rattle.shred_cols.specs.Row.{Version, id_of}

-- the versions of a collection under their documents' ids, in the order of ids
abbrev pub Rows : Type 0
Rows = List (Tree × Version)

-- what stands under an id
abbrev pub version_of : Tree → Rows → Option Version
version_of id rows = find id_cmp id rows

-- the rows with this version under its id
abbrev pub with_version : Tree → Version → Rows → Rows
with_version id v rows = put id_cmp id v rows

-- the id is another one
abbrev pub is_other : Tree → Tree → Bool
is_other id other = not (eq_by_cmp id_cmp id other)

-- the rows without what stands under an id
abbrev pub without : Tree → Rows → Rows
without id rows = where_key id_cmp (is_other id) rows

-- the ids rise
abbrev pub ascends : Rows → Bool
ascends rows = is_sorted id_cmp rows

-- a version under its document's id
abbrev pub keyed : Version → Tree × Version
keyed v = (id_of v.doc, v)

-- the id comes after the given one
abbrev pub is_after : Option Tree → Tree → Bool
is_after None id = true
is_after (Some a) id = is_lt (id_cmp a id)

-- the first of a list
abbrev pub first : {A : Type 0} → List A → Option A
first [] = None
first (x ∷ xs) = Some x

-- what stands under the next id
abbrev pub next_of : Option Tree → Rows → Option (Tree × Version)
next_of after rows = first (filter (λ e. is_after after e.0) rows)
