use Rattle.std.proofs.Common.{◌≡◌, ◌*◌, ◌-◌, ◌^◌, ◌<◌}
use Rattle.json_tree.proofs.decimal.times.Given as goal

abbrev pub invariant-tens : goal.invariant-tens
invariant-tens l = record {
  fits : l.n < 10 ^ 38;
  same : l.n * 10 ^ (l.power - l._i) ≡ l.fn.n * 10 ^ l.power;
}
