-- Where the entries that a probe asks for begin. Only the crate's private clauses cite it.
use Rattle.std.specs.Prelude.{ℕ, ℤ, pos, Bool, ◌&&◌, ◌==◌, List, [], Option, Some, None}
use Rattle.std.specs.declared.cmp.Ordering.{Ordering}
use Rattle.std.specs.declared.cmp.Ordering.TheVariants.{Equal}
use Rattle.std.specs.Ordering.{nat_cmp, int_cmp, ordering_then, is_gt}
use Rattle.std.specs.Cmp.Lexicographic.{slice_cmp}
use Rattle.std.specs.Str.{bytes_eq}
use Rattle.shred_cols.specs.Entry.{path_of, column_of}
use Rattle.shred_cols.specs.Order.{number_of, bytes_of, kept_number, kept_bytes}
use Rattle.shred_cols.specs.declared.entry.Entry.{Entry}
use Rattle.shred_cols.specs.declared.probe.Probe.{Probe}
use Rattle.shred_cols.specs.declared.probe.Probe.TheVariants as p

abbrev pub column_asked : Probe → ℕ
column_asked p.All = 0
column_asked (p.Exists a) = 1
column_asked (p.Size a n) = 2
column_asked (p.Has a k) = 3
column_asked (p.NumRange a low high) = 5
column_asked (p.TextRange a low high) = 6
column_asked (p.DateRange a low high) = 7

abbrev pub path_asked : Probe → List ℕ
path_asked p.All = []
path_asked (p.Exists a) = a
path_asked (p.Size a n) = a
path_asked (p.Has a k) = a
path_asked (p.NumRange a low high) = a
path_asked (p.TextRange a low high) = a
path_asked (p.DateRange a low high) = a

-- the low end of what it asks for, as a number; none where it asks for all of the path
abbrev pub low_number : Probe → Option ℤ
low_number p.All = None
low_number (p.Exists a) = None
low_number (p.Size a n) = Some (pos n)
low_number (p.Has a k) = Some (kept_number k)
low_number (p.NumRange a low high) = low
low_number (p.TextRange a None high) = None
low_number (p.TextRange a (Some k) high) = Some (pos 0)
low_number (p.DateRange a low high) = low

-- and as bytes, among those of this number
abbrev pub low_bytes : Probe → List ℕ
low_bytes p.All = []
low_bytes (p.Exists a) = []
low_bytes (p.Size a n) = []
low_bytes (p.Has a k) = kept_bytes k
low_bytes (p.NumRange a low high) = []
low_bytes (p.TextRange a None high) = []
low_bytes (p.TextRange a (Some k) high) = k.0
low_bytes (p.DateRange a low high) = []

-- an end against what an entry says
abbrev pub end_cmp : Option ℤ → List ℕ → Entry → Ordering
end_cmp None bytes e = Equal
end_cmp (Some n) bytes e = ordering_then (int_cmp n (number_of e)) (slice_cmp nat_cmp bytes (bytes_of e))

-- the entry stands before this column, path and low end
abbrev pub is_before : ℕ → List ℕ → Option ℤ → List ℕ → Entry → Bool
is_before column path low bytes e = is_gt (ordering_then (nat_cmp column (column_of e)) (ordering_then (slice_cmp nat_cmp path (path_of e)) (end_cmp low bytes e)))

-- the same of an entry of the column
abbrev pub is_short_of : List ℕ → Option ℤ → List ℕ → Entry → Bool
is_short_of path low bytes e = is_gt (ordering_then (slice_cmp nat_cmp path (path_of e)) (end_cmp low bytes e))

abbrev pub is_at : Entry → ℕ → List ℕ → Bool
is_at e column path = (column_of e == column) && bytes_eq (path_of e) path
