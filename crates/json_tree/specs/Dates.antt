-- Objects that stand for dates in texts: one member, `$date`, with the milliseconds.
use Rattle.std.specs.Prelude.{ℕ, suc, ◌/◌, ◌%◌, ◌^◌, ◌==◌, ◌&&◌, nat_lt, nat_le, ℤ, pos, negsuc, neg_ℤ, if◌then◌else◌, List, [], ◌∷◌, Option, Some, None}
use Rattle.std.specs.Str.{bytes_eq}
use Rattle.json_tree.specs.Tree.{Tree, number}

-- the milliseconds of a number that is whole and within 64 bits
abbrev pub whole_i64 : ℤ → Option ℤ
whole_i64 (pos n) = if (n % 10 ^ 18 == 0) && nat_lt (n / 10 ^ 18) (2 ^ 63) then Some (pos (n / 10 ^ 18)) else None
whole_i64 (negsuc n) = if (suc n % 10 ^ 18 == 0) && nat_le (suc n / 10 ^ 18) (2 ^ 63) then Some (neg_ℤ (pos (suc n / 10 ^ 18))) else None

-- `$date`
abbrev pub date_name : List ℕ
date_name = 36 ∷ 100 ∷ 97 ∷ 116 ∷ 101 ∷ []

-- the date that an object is whose one member is `$date`, with a value that is whole and within 64 bits
abbrev pub date_of : List (List ℕ × Tree) → Option ℤ
date_of ((n, number z) ∷ []) = if bytes_eq n date_name then whole_i64 z else None
date_of ms = None
