-- How many byte strings of at most so many bytes come after one, in the order of bytes: it falls as ids rise.
use Rattle.std.specs.Prelude.{ℕ, zero, suc, ◌+◌, ◌-◌, ◌*◌, ◌<◌, List, [], ◌∷◌, ⊤, Option, Some, None}
use Rattle.json_tree.specs.Tree.{Tree}
use Rattle.json_tree.specs.Id.{IsId, IsInRange, key_of}

-- all byte strings of at most n bytes
unfoldable pub strings : ℕ → ℕ
strings zero = 1
strings (suc n) = 1 + 256 * strings n

unfoldable pub rank : ℕ → List ℕ → ℕ
rank zero bs = 0
rank (suc n) [] = 256 * strings n
rank (suc n) (b ∷ bs) = (255 - b) * strings n + rank n bs

abbrev pub AreBytes : List ℕ → Type 0
AreBytes [] = ⊤
AreBytes (b ∷ bs) = (b < 256) × AreBytes bs

-- an id of the program
pub record IsKeyed (id : Tree) : Type 0 where
  pub is_id : IsId id
  pub in_range : IsInRange id
  pub bytes : AreBytes (key_of id)

-- how many ids may come after this one, or in all
abbrev pub rank_of : Option Tree → ℕ
rank_of None = strings 8001
rank_of (Some id) = rank 8001 (key_of id)
