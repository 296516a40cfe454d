-- How the code keeps exact values. Only the crate's private clauses cite it.
use Rattle.std.specs.Prelude.{◌≡◌, ℕ, ◌+◌, ◌*◌, ◌^◌, ◌<◌, ◌≤◌, Bool, true, false}
use Rattle.json_tree.specs.declared.digits.Rounded.{Rounded}

-- the rest is lost where it isn't 0
abbrev pub IsLost : Bool → ℕ → Type 0
IsLost true rest = 0 < rest
IsLost false rest = rest ≡ 0

-- v is the coefficient times a power of ten, and a rest below that power
pub record IsRounded (v : ℕ) (r : Rounded) : Type 0 where
  pub rest : ℕ
  pub value : v ≡ r.coefficient * 10 ^ r.zeros + rest
  pub small : rest < 10 ^ r.zeros
  pub lost : IsLost r.lost rest
  pub fits : r.coefficient < 10 ^ 38
  pub grown : 0 < r.zeros → 10 ^ 37 ≤ r.coefficient
