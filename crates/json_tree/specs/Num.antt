-- Numbers: whole counts of units of 10^-18, under 10^38 of them in absolute value.
use Rattle.std.specs.Prelude.{ℕ, zero, suc, ◌*◌, ◌/◌, ◌%◌, ◌<◌, ◌^◌, ◌==◌, nat_lt, ℤ, pos, negsuc, neg_ℤ, ◌+ℤ◌, nat_abs, if◌then◌else◌, Option, Some, None, option_map, option_and_then}

abbrev pub IsNumber : ℤ → Type 0
IsNumber n = nat_abs n < 10 ^ 38

-- a magnitude that a number may have
abbrev pub in_range : ℕ → Option ℕ
in_range n = if nat_lt n (10 ^ 38) then Some n else None

-- n times 10 to the power, where that is whole
abbrev pub scaled : ℕ → ℤ → Option ℕ
scaled n (pos k) = Some (n * 10 ^ k)
scaled n (negsuc k) = if n % 10 ^ suc k == 0 then Some (n / 10 ^ suc k) else None

-- an exact value with no sign: the coefficient times 10 to the power
pub record Decimal : Type 0 where
  pub coefficient : ℕ
  pub power : ℤ

-- the units that the value is, where it is a number
unfoldable pub units_of : Decimal → Option ℕ
units_of d = option_and_then in_range (scaled d.coefficient (d.power +ℤ pos 18))

-- m with the sign of z
abbrev pub with_sign : ℤ → ℕ → ℤ
with_sign (pos n) m = pos m
with_sign (negsuc n) m = neg_ℤ (pos m)

-- c times 10 to the power, where it is a number
abbrev pub parts_value : ℤ → ℤ → Option ℤ
parts_value c p = option_map (with_sign c) (units_of (record { coefficient = nat_abs c; power = p }))

-- ---- sums and products

-- the sum, where it is a number
abbrev pub sum_of : ℤ → ℤ → Option ℤ
sum_of a b = if nat_lt (nat_abs (a +ℤ b)) (10 ^ 38) then Some (a +ℤ b) else None

-- the greatest t up to k for which 10 ^ t divides n
abbrev pub zeros_in : ℕ → ℕ → ℕ
zeros_in zero n = 0
zeros_in (suc k) n = if n % 10 ^ suc k == 0 then suc k else zeros_in k n

-- n without its trailing zeros, at most 18 of them
unfoldable pub coefficient_of : ℕ → ℕ
coefficient_of n = n / 10 ^ zeros_in 18 n

-- the product of two magnitudes in units, exact and in units again, where the product of their coefficients stays in the range
unfoldable pub magnitude_product : ℕ → ℕ → Option ℕ
magnitude_product a b =
    if nat_lt (coefficient_of a * coefficient_of b) (10 ^ 38) then option_and_then in_range (scaled (a * b) (negsuc 17)) else None

-- m with the sign of the product of a and b
abbrev pub with_signs : ℤ → ℤ → ℕ → ℤ
with_signs (pos a) b m = with_sign b m
with_signs (negsuc a) (pos b) m = neg_ℤ (pos m)
with_signs (negsuc a) (negsuc b) m = pos m

-- the product, where it isn't refused
abbrev pub product_of : ℤ → ℤ → Option ℤ
product_of a b = option_map (with_signs a b) (magnitude_product (nat_abs a) (nat_abs b))
