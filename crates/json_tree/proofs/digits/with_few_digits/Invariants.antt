use Rattle.std.proofs.Common.{◌≡◌, drop, true}
use Rattle.std.specs.List.{list_all}
use Rattle.std.specs.Char.{is_ascii_digit}
use Rattle.std.specs.Str.Parse.{digits_value_after}
use Rattle.json_tree.proofs.digits.with_few_digits.Given as goal

abbrev pub invariant-digits : goal.invariant-digits
invariant-digits l = record {
  left : list_all is_ascii_digit (drop l.b-index l.digits) ≡ true;
  same : digits_value_after 10 l.n (drop l.b-index l.digits) ≡ digits_value_after 10 l.initial.n l.digits;
}
