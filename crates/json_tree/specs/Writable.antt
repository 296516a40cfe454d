-- What every value of the program is by its types, and which values are written as they are read.
use Rattle.std.specs.Prelude.{◌≡◌, ℕ, suc, ◌<◌, ◌^◌, ℤ, pos, negsuc, List, [], ◌∷◌, ◌++◌, max, false, ⊤, None, IsTrue}
use Rattle.std.specs.List.{list_any}
use Rattle.std.specs.Str.{bytes_eq, IsUtf8}
use Rattle.json_tree.specs.Num.{IsNumber}
use Rattle.json_tree.specs.Tree.{Tree, null, boolean, number, text, date, list, object, Elements, no_elements, element, Members, no_members, member, list_of_members}
use Rattle.json_tree.specs.Members.{all_distinct}
use Rattle.json_tree.specs.Dates.{date_of}

-- a date counts as one level
abbrev mutual
  pub tree_levels : Tree → ℕ
  tree_levels (date n) = 1
  tree_levels (list vs) = suc (elements_levels vs)
  tree_levels (object ms) = suc (members_levels ms)
  tree_levels v = 0

  pub elements_levels : Elements → ℕ
  elements_levels no_elements = 0
  elements_levels (element v vs) = max (tree_levels v) (elements_levels vs)

  pub members_levels : Members → ℕ
  members_levels no_members = 0
  members_levels (member n v ms) = max (tree_levels v) (members_levels ms)

abbrev pub IsI64 : ℤ → Type 0
IsI64 (pos n) = n < 2 ^ 63
IsI64 (negsuc n) = n < 2 ^ 63

-- Texts and names are UTF-8, numbers and dates in range, and the names of an object differ.
abbrev mutual
  pub IsValue : Tree → Type 0
  IsValue null = ⊤
  IsValue (boolean b) = ⊤
  IsValue (number n) = IsNumber n
  IsValue (text s) = IsUtf8 s
  IsValue (date n) = IsI64 n
  IsValue (list vs) = AreValues vs
  IsValue (object ms) = IsTrue (all_distinct (list_of_members ms)) × MembersAreValues ms

  pub AreValues : Elements → Type 0
  AreValues no_elements = ⊤
  AreValues (element v vs) = IsValue v × AreValues vs

  pub MembersAreValues : Members → Type 0
  MembersAreValues no_members = ⊤
  MembersAreValues (member n v ms) = IsUtf8 n × IsValue v × MembersAreValues ms

-- no object inside is one that stands for a date
abbrev mutual
  pub HoldsNoDateObject : Tree → Type 0
  HoldsNoDateObject (list vs) = HoldNoDateObject vs
  HoldsNoDateObject (object ms) = (date_of (list_of_members ms) ≡ None) × MembersHoldNoDateObject ms
  HoldsNoDateObject v = ⊤

  pub HoldNoDateObject : Elements → Type 0
  HoldNoDateObject no_elements = ⊤
  HoldNoDateObject (element v vs) = HoldsNoDateObject v × HoldNoDateObject vs

  pub MembersHoldNoDateObject : Members → Type 0
  MembersHoldNoDateObject no_members = ⊤
  MembersHoldNoDateObject (member n v ms) = HoldsNoDateObject v × MembersHoldNoDateObject ms

-- A value that holds no object that stands for a date, in the order of its members.
abbrev mutual
  pub IsWritable : Tree → Type 0
  IsWritable null = ⊤
  IsWritable (boolean b) = ⊤
  IsWritable (number n) = IsNumber n
  IsWritable (text s) = IsUtf8 s
  IsWritable (date n) = IsI64 n
  IsWritable (list vs) = AreWritable vs
  IsWritable (object ms) = MembersAreWritable [] ms × (date_of (list_of_members ms) ≡ None)

  pub AreWritable : Elements → Type 0
  AreWritable no_elements = ⊤
  AreWritable (element v vs) = IsWritable v × AreWritable vs

  -- after members with these names
  pub MembersAreWritable : List (List ℕ) → Members → Type 0
  MembersAreWritable names no_members = ⊤
  MembersAreWritable names (member n v ms) = IsUtf8 n × (list_any (λ m. bytes_eq m n) names ≡ false) × IsWritable v × MembersAreWritable (names ++ n ∷ []) ms
