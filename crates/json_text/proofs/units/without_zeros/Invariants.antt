use Rattle.std.proofs.Common.{◌≡◌, ◌≤◌, ◌<◌, ◌^◌}
use Rattle.json_text.specs.Print.{trimmed}
use Rattle.json_text.proofs.units.without_zeros.Given as goal

abbrev pub invariant-zeros : goal.invariant-zeros
invariant-zeros l = record {
  one : l.one ≡ 10 ^ l.digits;
  small : l.left < l.one;
  wide : l.one ≤ 1000000000000000000;
  few : l.digits ≤ l.fn.fraction.digits;
  same : trimmed l.digits l.left ≡ trimmed l.fn.fraction.digits l.fn.fraction.left;
}

abbrev pub decreases-zeros : goal.decreases-zeros
decreases-zeros l = l.digits
