-- The names of the members in a value.
use Rattle.std.specs.Prelude.{ℕ, List, [], ◌∷◌, ◌++◌, Bool, ◌||◌, not, ◌==◌, Option}
use Rattle.std.specs.List.{list_all, find}
use Rattle.std.specs.Char.{is_ascii_alphanumeric}
use Rattle.json_tree.specs.Tree.{Tree, list, object, Elements, no_elements, element, Members, no_members, member}

-- a letter or a digit of ASCII, `_` or `-`
abbrev pub is_plain_byte : ℕ → Bool
is_plain_byte x = is_ascii_alphanumeric x || (x == 95 || x == 45)

abbrev pub is_plain : List ℕ → Bool
is_plain name = list_all is_plain_byte name

-- the names of all members at every depth: a name, then the names inside its value, then those of the next member
abbrev mutual
  pub names_in : Tree → List (List ℕ)
  names_in (list ts) = names_in_elements ts
  names_in (object ms) = names_in_members ms
  names_in t = []

  pub names_in_elements : Elements → List (List ℕ)
  names_in_elements no_elements = []
  names_in_elements (element t ts) = names_in t ++ names_in_elements ts

  pub names_in_members : Members → List (List ℕ)
  names_in_members no_members = []
  names_in_members (member n t ms) = n ∷ (names_in t ++ names_in_members ms)

-- the first name that has another byte
abbrev pub first_bad_name : Tree → Option (List ℕ)
first_bad_name t = find (λ n. not (is_plain n)) (names_in t)
