-- The digits of a fraction. Only the crate's private clauses cite it.
use Rattle.std.specs.Prelude.{◌≡◌, ◌^◌, ◌<◌, ◌≤◌}
use Rattle.json_text.specs.declared.units.Fraction.{Fraction}

abbrev pub IsFraction : Fraction → Type 0
IsFraction f = (f.one ≡ 10 ^ f.digits) × (f.left < f.one) × (f.one ≤ 1000000000000000000)
