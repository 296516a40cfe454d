-- The beginning of an id, whose order is never against that of ids.
use Rattle.std.proofs.Common.{ℕ, zero, suc, List, [], ◌∷◌}
use Rattle.json_tree.specs.Tree.{Tree}
use Rattle.json_tree.specs.Id.{id_tag, id_text}

-- so many of the first bytes, with zeros behind them where there are fewer
abbrev pub padded : ℕ → List ℕ → List ℕ
padded zero bs = []
padded (suc n) [] = 0 ∷ padded n []
padded (suc n) (b ∷ bs) = b ∷ padded n bs

-- the kind of an id, and the first bytes of a text
abbrev pub beginning : Tree → List ℕ
beginning id = id_tag id ∷ padded 15 (id_text id)
