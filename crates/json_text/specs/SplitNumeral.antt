-- The parts of a numeral. Only the crate's private clauses cite it.
use Rattle.std.specs.Prelude.{◌≡◌, ℕ, ◌^◌, ◌<◌, ◌≤◌, ℤ, pos, negsuc, ◌≤ℤ◌, List, Option, Some, IsTrue, ◌⊎◌}
use Rattle.std.specs.List.{list_all}
use Rattle.std.specs.Char.{is_ascii_digit}
use Rattle.json_tree.specs.Cut.{IsCut}
use Rattle.json_text.specs.Numeral.{decimal_of, unsigned}
use Rattle.json_text.specs.declared.token.numeral.SplitNumeral.{SplitNumeral}

-- a number of digits, cut off where it is large
pub record IsCutNumber (n cut : ℕ) : Type 0 where
  pub same : (cut ≡ n) ⊎ ((10 ^ 21 ≤ n) × (10 ^ 21 ≤ cut))
  pub small : cut < 10 ^ 22

abbrev pub WholeRead : Option ℕ → ℕ → Type 0
WholeRead o cut = (n : ℕ) × (o ≡ Some n) × IsCutNumber n cut

pub record IsExponent (o : Option ℤ) (z : ℤ) : Type 0 where
  pub exponent : ℤ
  pub read : o ≡ Some exponent
  pub cut : IsCut exponent z
  pub high : z ≤ℤ pos (10 ^ 22)
  pub low : negsuc (10 ^ 22) ≤ℤ z

pub record IsSplitNumeral (bytes : List ℕ) (p : SplitNumeral) : Type 0 where
  pub exponent : ℤ
  pub read : unsigned bytes ≡ Some (decimal_of p.whole.now p.fraction.now exponent)
  pub cut : IsCut exponent p.exponent
  pub high : p.exponent ≤ℤ pos (10 ^ 22)
  pub low : negsuc (10 ^ 22) ≤ℤ p.exponent
  pub whole : IsTrue (list_all is_ascii_digit p.whole.now)
  pub fraction : IsTrue (list_all is_ascii_digit p.fraction.now)
