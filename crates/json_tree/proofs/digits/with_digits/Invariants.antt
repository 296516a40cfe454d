use Rattle.std.proofs.Common.{◌≡◌, ℕ, ◌+◌, ◌^◌, ◌<◌, ◌≤◌, drop, true}
use Rattle.std.specs.List.{list_all}
use Rattle.std.specs.Char.{is_ascii_digit}
use Rattle.std.specs.Str.Parse.{digits_value_after}
use Rattle.json_tree.specs.Rounded.{IsRounded}
use Rattle.json_tree.proofs.digits.with_digits.Given as goal

abbrev pub invariant-digits : goal.invariant-digits
invariant-digits l = record {
  left : list_all is_ascii_digit (drop l.b-index l.digits) ≡ true;
  fits : l.r.coefficient < 10 ^ 38;
  zeros : l.r.zeros ≤ l.fn.r.zeros + l.b-index;
  same : (v : ℕ) → IsRounded v l.fn.r → (w : ℕ) × IsRounded w l.r × (digits_value_after 10 w (drop l.b-index l.digits) ≡ digits_value_after 10 v l.digits);
}
