-- Where columns begin among entries. Only the crate's private clauses cite it.
use Rattle.std.specs.Prelude.{ℕ, ◌<◌, ◌≤◌, List, length, slice_index_or}
use Rattle.shred_cols.specs.Entry.{column_of}
use Rattle.shred_cols.specs.declared.entry.Entry.{Entry}
use Rattle.shred_cols.specs.declared.starts.Starts.{Starts}

-- before this place stand the entries of lower columns, and from it on all others
pub record IsStart (column : ℕ) (es : List Entry) (place : ℕ) : Type 0 where
  pub within : place ≤ length es
  pub before : (k : ℕ) (d : Entry) → k < place → column_of (slice_index_or es k d) < column
  pub after : (k : ℕ) (d : Entry) → place ≤ k → k < length es → column ≤ column_of (slice_index_or es k d)

pub record AreStarts (s : Starts) (es : List Entry) : Type 0 where
  pub size : IsStart 2 es s.size
  pub kept : IsStart 3 es s.kept
  pub truth : IsStart 4 es s.truth
  pub number : IsStart 5 es s.number
  pub text : IsStart 6 es s.text
  pub date : IsStart 7 es s.date
  pub null : IsStart 8 es s.null
