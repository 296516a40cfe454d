-- The paths to the values inside a value.
use Rattle.std.specs.Prelude.{ℕ, suc, List, [], ◌∷◌, ◌++◌, map, decimal}
use Rattle.std.specs.List.{join_with_byte}
use Rattle.json_tree.specs.Tree.{Tree, list, object, Elements, no_elements, element, Members, no_members, member}

-- the path to each value inside, as its parts: names of members, and places of elements in decimal
abbrev mutual
  pub paths_in : Tree → List (List (List ℕ))
  paths_in (list ts) = paths_in_elements 0 ts
  paths_in (object ms) = paths_in_members ms
  paths_in t = []

  -- of elements of which the first has the place i
  pub paths_in_elements : ℕ → Elements → List (List (List ℕ))
  paths_in_elements i no_elements = []
  paths_in_elements i (element t ts) = (decimal i ∷ []) ∷ (map (λ p. decimal i ∷ p) (paths_in t) ++ paths_in_elements (suc i) ts)

  pub paths_in_members : Members → List (List (List ℕ))
  paths_in_members no_members = []
  paths_in_members (member n t ms) = (n ∷ []) ∷ (map (λ p. n ∷ p) (paths_in t) ++ paths_in_members ms)

-- the text of a path: its parts with dots between them
abbrev pub path_text : List (List ℕ) → List ℕ
path_text parts = join_with_byte 46 parts
