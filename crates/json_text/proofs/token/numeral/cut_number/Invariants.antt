use Rattle.std.proofs.Common.{◌≡◌, ◌^◌, ◌<◌, ◌≤◌, ◌⊎◌, drop, true}
use Rattle.std.specs.List.{list_all}
use Rattle.std.specs.Char.{is_ascii_digit}
use Rattle.std.specs.Str.Parse.{digits_value, digits_value_after}
use Rattle.json_text.proofs.token.numeral.cut_number.Given as goal

abbrev pub invariant-digits : goal.invariant-digits
invariant-digits l = record {
  left : list_all is_ascii_digit (drop l.b-index l.digits) ≡ true;
  small : l.n < 10 ^ 22;
  same : (digits_value_after 10 l.n (drop l.b-index l.digits) ≡ digits_value 10 l.digits) ⊎ ((10 ^ 21 ≤ digits_value 10 l.digits) × (10 ^ 21 ≤ l.n));
}
