use Rattle.std.proofs.Common.{◌≡◌, ◌*◌, ◌^◌}
use Rattle.json_tree.proofs.decimal.over.Given as goal

abbrev pub invariant-tens : goal.invariant-tens
invariant-tens l = l.fn.n ≡ l.n * 10 ^ l._i
