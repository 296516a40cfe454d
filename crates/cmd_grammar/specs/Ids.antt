-- The texts that are made for ids: digits of base 16 and hyphens.
use Rattle.std.specs.Prelude.{◌≡◌, ℕ, Bool, nat_le, ◌==◌, ◌&&◌, ◌||◌, List, length, IsTrue}
use Rattle.std.specs.List.{list_all}

-- a digit, a letter from a to f, or a hyphen
abbrev pub is_id_byte : ℕ → Bool
is_id_byte x = (nat_le 48 x && nat_le x 57) || ((nat_le 97 x && nat_le x 102) || x == 45)

-- as many such bytes as the text has that stands for an id
pub record IsIdText (u : List ℕ) : Type 0 where
  pub long : length u ≡ 36
  pub bytes : IsTrue (list_all is_id_byte u)
