-- Exponents that are cut off: what is past 10^21 makes no number of any digits that a slice may hold, but of zeros.
use Rattle.std.specs.Prelude.{◌≡◌, ◌^◌, ℤ, pos, negsuc, ◌≤ℤ◌, ◌⊎◌}

-- an exponent, cut off where it is far out of any range
pub record IsCut (e cut : ℤ) : Type 0 where
  pub same : (cut ≡ e) ⊎ (((pos (10 ^ 21) ≤ℤ e) × (pos (10 ^ 21) ≤ℤ cut)) ⊎ ((e ≤ℤ negsuc (10 ^ 20)) × (cut ≤ℤ negsuc (10 ^ 20))))
