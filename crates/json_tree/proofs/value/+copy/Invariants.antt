use Rattle.std.proofs.Common.{◌≡◌, ◌≤◌, take, map, length, vec_len, vec_capacity}
use Rattle.json_tree.specs.View.{tree, pair_of}
use Rattle.json_tree.proofs.value.+copy.Given as goal

abbrev pub invariant-Items::try_copy-loop-i : goal.invariant-Items::try_copy-loop-i
invariant-Items::try_copy-loop-i l = record {
  same : map tree l.items.items ≡ take l.i (map tree l.self-inside.items.items);
  count : vec_len l.items ≡ l.i;
  room : length l.self-inside.items.items ≤ vec_capacity l.items;
}

abbrev pub invariant-Members::try_copy-loop-i : goal.invariant-Members::try_copy-loop-i
invariant-Members::try_copy-loop-i l = record {
  same : map pair_of l.pairs.items ≡ take l.i (map pair_of l.self-inside.pairs.items);
  count : vec_len l.pairs ≡ l.i;
  room : length l.self-inside.pairs.items ≤ vec_capacity l.pairs;
}
