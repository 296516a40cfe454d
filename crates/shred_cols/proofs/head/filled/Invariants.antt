use Rattle.std.proofs.Common.{◌≡◌, ◌+◌, ◌∷◌, take, length}
use Rattle.shred_cols.specs.Beginning.{padded}
use Rattle.shred_cols.proofs.head.filled.Given as goal

abbrev pub invariant-loop-i : goal.invariant-loop-i
invariant-loop-i l = record {
  bytes : take (l.i + 1) l.filled ≡ l.first ∷ take l.i (padded 15 l.bytes);
  len : length l.filled ≡ 16;
}
