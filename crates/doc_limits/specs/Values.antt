-- The values in a value, and how deep they lie.
use Rattle.std.specs.Prelude.{ℕ, ◌+◌, max, List, [], ◌∷◌, ◌++◌, length}
use Rattle.json_tree.specs.Tree.{Tree, text, list, object, Elements, no_elements, element, Members, no_members, member, list_of_elements, list_of_members}

-- the value itself and those inside it, at every depth
abbrev mutual
  pub values_in : Tree → List Tree
  values_in (list ts) = list ts ∷ values_in_elements ts
  values_in (object ms) = object ms ∷ values_in_members ms
  values_in t = t ∷ []

  pub values_in_elements : Elements → List Tree
  values_in_elements no_elements = []
  values_in_elements (element t ts) = values_in t ++ values_in_elements ts

  pub values_in_members : Members → List Tree
  values_in_members no_members = []
  values_in_members (member n t ms) = values_in t ++ values_in_members ms

-- how many lists and objects stand one inside another
abbrev mutual
  pub levels : Tree → ℕ
  levels (list ts) = 1 + levels_of_elements ts
  levels (object ms) = 1 + levels_of_members ms
  levels t = 0

  pub levels_of_elements : Elements → ℕ
  levels_of_elements no_elements = 0
  levels_of_elements (element t ts) = max (levels t) (levels_of_elements ts)

  pub levels_of_members : Members → ℕ
  levels_of_members no_members = 0
  levels_of_members (member n t ms) = max (levels t) (levels_of_members ms)

-- the elements of a list
abbrev pub elements_count : Tree → ℕ
elements_count (list ts) = length (list_of_elements ts)
elements_count t = 0

-- the members of an object
abbrev pub members_count : Tree → ℕ
members_count (object ms) = length (list_of_members ms)
members_count t = 0

-- the bytes of a text
abbrev pub text_bytes : Tree → ℕ
text_bytes (text s) = length s
text_bytes t = 0
