use Rattle.std.proofs.Common.{◌≡◌, ◌<◌, ◌≤◌, ◌-◌, ℕ, true, false, length, get_or}
use Rattle.shred_cols.specs.Search.{is_before}
use Rattle.shred_cols.specs.declared.entry.Entry.{Entry}
use Rattle.shred_cols.proofs.search.seek.Given as goal

abbrev pub invariant-halves : goal.invariant-halves
invariant-halves l = record {
  front : l.front ≤ l.low;
  back : l.high ≤ l.back;
  low : l.low ≤ length l.entries;
  high : l.high ≤ length l.entries;
  before : (k : ℕ) (d : Entry) → k < l.low → is_before l.column l.path l.end l.bytes (get_or l.entries k d) ≡ true;
  after : (k : ℕ) (d : Entry) → l.high ≤ k → k < length l.entries → is_before l.column l.path l.end l.bytes (get_or l.entries k d) ≡ false;
}

abbrev pub decreases-halves : goal.decreases-halves
decreases-halves l = l.high - l.low
