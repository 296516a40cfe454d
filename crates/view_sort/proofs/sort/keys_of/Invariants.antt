use Rattle.std.specs.Prelude.{◌≡◌, take}
use Rattle.view_sort.specs.Rank.{all_keys}
use Rattle.view_sort.proofs.sort.keys_of.Given as goal

abbrev pub invariant-loop-key : goal.invariant-loop-key
invariant-loop-key l = l.sided.items ≡ all_keys (take l.key-index l.keys) l.found.doc
