-- Worked rows.
use Rattle.std.specs.Prelude.{◌*◌, ◌^◌, ℕ, pos, codes, List, [], ◌∷◌}
use Rattle.json_tree.specs.Tree.{Tree, null, number, text, list, object, elements_of, members_of}

abbrev pub n : ℕ → Tree
n k = number (pos (k * 10 ^ 18))

abbrev pub obj : List (List ℕ × Tree) → Tree
obj ps = object (members_of ps)

abbrev pub arr : List Tree → Tree
arr ts = list (elements_of ts)

-- `{"_id":"t","tags":["x",null,{"k":1}]}`
abbrev pub tagged : Tree
tagged = obj ((codes "_id", text (codes "t")) ∷ (codes "tags", arr (text (codes "x") ∷ null ∷ obj ((codes "k", n 1) ∷ []) ∷ [])) ∷ [])

-- `{"_id":"a"}`
abbrev pub plain : Tree
plain = obj ((codes "_id", text (codes "a")) ∷ [])
