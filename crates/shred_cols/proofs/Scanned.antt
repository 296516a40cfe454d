-- The entries of one column, looked through.
use Rattle.std.proofs.Common.{◌≡◌, ◌<◌, ◌≤◌, ◌+◌, ◌-◌, ℕ, Bool, true, false, List, [], length, get_or, take, drop, subst, arith}
use Rattle.std.specs.List.{list_any}
use Rattle.shred_cols.specs.Entry.{column_of}
use Rattle.shred_cols.specs.Probe.{inside}
use Rattle.shred_cols.specs.Search.{column_asked, path_asked, low_number, low_bytes}
use Rattle.shred_cols.specs.Starts.{IsStart}
use Rattle.shred_cols.specs.declared.entry.Entry.{Entry}
use Rattle.shred_cols.specs.declared.entry.Entry.TheVariants as v
use Rattle.shred_cols.specs.declared.probe.Probe.{Probe}
use Rattle.shred_cols.specs.declared.probe.Probe.TheVariants as p
use Rattle.shred_cols.proofs.Runs.{cut_any}
use Rattle.shred_cols.proofs.Seeking.{not_before}
use Rattle.shred_cols.proofs.Started.{at_least_one, before_column}

past_asked : (q : Probe) (e : Entry) → 1 ≤ column_asked q → column_asked q < column_of e → inside q e ≡ false
past_asked p.All e ge l = absurd (omega arith)
past_asked (p.Exists a) (v.Exists b) ge l = absurd (omega arith)
past_asked (p.Size a n) (v.Size b m) ge l = absurd (omega arith)
past_asked (p.Has a k) (v.Has b m) ge l = absurd (omega arith)
past_asked (p.NumRange a low high) (v.Num b n) ge l = absurd (omega arith)
past_asked (p.TextRange a low high) (v.Text b k) ge l = absurd (omega arith)
past_asked (p.DateRange a low high) (v.Date b n) ge l = absurd (omega arith)
past_asked q e ge l = cc

-- a column that has an entry isn't that of all
some_column : (es : List Entry) (column front back : ℕ) → IsStart column es front → IsStart (column + 1) es back → front < back → 1 ≤ column
some_column es column front back f b l =
    let d : Entry = v.Null [] in
    omega (arith, at_least_one (get_or es front d), f.after front d (omega arith) (omega (arith, b.within)), b.before front d l)

pub run_asked : (q : Probe) (es : List Entry) (column front back : ℕ) → column ≡ column_asked q → IsStart column es front → IsStart (column + 1) es back → front < back
    → list_any (inside q) (take (back - front) (drop front es)) ≡ list_any (inside q) es
run_asked q es column front back e f b l =
    cut_any (inside q) es front (back - front)
    (λ k d m. not_before q (get_or es k d) (before_column (column_asked q) (path_asked q) (low_bytes q) (low_number q) (get_or es k d) (omega (arith, e, f.before k d m))))
    (λ k d m n. past_asked q (get_or es k d) (omega (arith, e, some_column es column front back f b l)) (omega (arith, e, b.after k d (omega (arith, l)) n))) f.within
