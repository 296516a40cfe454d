-- Numbers that are cut off.
use Rattle.std.proofs.Common.{◌≡◌, ℕ, ◌^◌, ◌≤◌, List, drop, ◌⊎◌, inl, inr, arith}
use Rattle.std.specs.Str.Parse.{digits_value_after}
use Rattle.json_tree.specs.DigitLists.{value_grows}

-- a number that is far off stays so
pub stays_far : (n i v : ℕ) (ds : List ℕ) → 10 ^ 21 ≤ n → (digits_value_after 10 n (drop i ds) ≡ v) ⊎ ((10 ^ 21 ≤ v) × (10 ^ 21 ≤ n)) → (10 ^ 21 ≤ v) × (10 ^ 21 ≤ n)
stays_far n i v ds h (inl e) = (omega (arith, value_grows n (drop i ds)), h)
stays_far n i v ds h (inr k) = k
