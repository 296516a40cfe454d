-- Searches: listings for the first so many matching documents, in the order of a sort.
use Rattle.std.specs.Prelude.{ℕ, List, [], ◌∷◌, length, Bool, false, ◌&&◌, not, nat_lt, is_none, Option, None, if◌then◌else◌}
use Rattle.std.specs.Ordering.{on}
use Rattle.sqlite_keyed.specs.Lists.{sort_by}
use Rattle.shred_cols.specs.Row.{Version}
use Rattle.shred_cols.specs.Rows.{first}
use Rattle.view_sort.specs.Sort.{SortKeys, found_cmp}
use Rattle.cmd_tasks.specs.Trace.{Sight, Found, end_of}

-- so many shown documents end a search for the first `keep`: under a sort it goes on to the end, or to one more than are sorted
abbrev pub bound : SortKeys → ℕ → ℕ
bound [] keep = keep
bound (key ∷ keys) keep = 10001

-- more are found than are sorted
abbrev pub is_too_many : SortKeys → List Found → Bool
is_too_many [] xs = false
is_too_many (key ∷ keys) xs = nat_lt 10000 (length xs)

-- a found document as it was stored
abbrev pub stored : Found → Version
stored x = record { tx = x.tx; doc = x.doc }

-- what was found, in the order of the sort; without one, in order of id, as it was found
abbrev pub in_order : SortKeys → List Found → List Found
in_order [] xs = xs
in_order (key ∷ keys) xs = sort_by (on stored (found_cmp (key ∷ keys))) xs

-- the newest of these looks came to the end
abbrev pub is_whole : List Sight → Bool
is_whole [] = false
is_whole (s ∷ earlier) = is_none (end_of s.item)

-- the first of what these looks found, as far as it can be told: under a sort, that is when all was looked at
abbrev pub first_of : SortKeys → List Sight → List Found → Option Found
first_of [] looks xs = first xs
first_of (key ∷ keys) looks xs = if is_whole looks && not (is_too_many (key ∷ keys) xs) then first (in_order (key ∷ keys) xs) else None
