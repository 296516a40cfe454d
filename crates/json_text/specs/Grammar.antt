-- The grammar of JSON texts over tokens (RFC 8259, sections 2 to 5), and what a text spells.
use Rattle.std.specs.Prelude.{◌≡◌, ℕ, suc, ◌≤◌, ℤ, List, [], ◌∷◌, ◌++◌, map, max, Bool, true, false, IsTrue, ◌&&◌, Option, Some, None}
use Rattle.std.specs.Str.{IsUtf8}
use Rattle.json_tree.specs.Tree.{Tree}
use Rattle.json_tree.specs.Dates.{date_of}
use Rattle.json_tree.specs.Members.{put_member}
use Rattle.json_tree.specs.Tree as tree
use Rattle.json_text.specs.Token.{Token, Placed, begin_object, end_object, begin_array, end_array, name_separator, value_separator, end}
use Rattle.json_text.specs.Token as token
use Rattle.json_text.specs.Lex.{tokens}

mutual
  -- a value as it is written: each member, in order
  pub data Json : Type 0 where
    null : Json
    boolean : Bool → Json
    number : Option ℤ → Json
    string : List ℕ → Json
    array : Elements → Json
    object : Fields → Json

  pub data Elements : Type 0 where
    no_elements : Elements
    element : Json → Elements → Elements

  pub data Fields : Type 0 where
    no_fields : Fields
    field : List ℕ → Json → Fields → Fields

-- ---- its tokens

abbrev mutual
  pub tokens_of : Json → List Token
  tokens_of null = token.null ∷ []
  tokens_of (boolean b) = token.boolean b ∷ []
  tokens_of (number n) = token.number n ∷ []
  tokens_of (string s) = token.string s ∷ []
  tokens_of (array es) = begin_array ∷ (elements_tokens es ++ end_array ∷ [])
  tokens_of (object fs) = begin_object ∷ (fields_tokens fs ++ end_object ∷ [])

  -- [ value *( value-separator value ) ]
  pub elements_tokens : Elements → List Token
  elements_tokens no_elements = []
  elements_tokens (element j es) = tokens_of j ++ more_elements es

  pub more_elements : Elements → List Token
  more_elements no_elements = []
  more_elements (element j es) = value_separator ∷ (tokens_of j ++ more_elements es)

  -- [ member *( value-separator member ) ], a member being a string, a name-separator and a value
  pub fields_tokens : Fields → List Token
  fields_tokens no_fields = []
  fields_tokens (field n j fs) = token.string n ∷ name_separator ∷ (tokens_of j ++ more_fields fs)

  pub more_fields : Fields → List Token
  more_fields no_fields = []
  more_fields (field n j fs) = value_separator ∷ token.string n ∷ name_separator ∷ (tokens_of j ++ more_fields fs)

-- a whole text
abbrev pub text_tokens : Json → List Token
text_tokens j = tokens_of j ++ end ∷ []

-- ---- its levels and numbers

abbrev mutual
  pub levels : Json → ℕ
  levels (array es) = suc (elements_levels es)
  levels (object fs) = suc (fields_levels fs)
  levels j = 0

  pub elements_levels : Elements → ℕ
  elements_levels no_elements = 0
  elements_levels (element j es) = max (levels j) (elements_levels es)

  pub fields_levels : Fields → ℕ
  fields_levels no_fields = 0
  fields_levels (field n j fs) = max (levels j) (fields_levels fs)

abbrev mutual
  -- each numeral's value is a number
  pub has_numbers : Json → Bool
  has_numbers (number None) = false
  has_numbers (array es) = elements_have_numbers es
  has_numbers (object fs) = fields_have_numbers fs
  has_numbers j = true

  pub elements_have_numbers : Elements → Bool
  elements_have_numbers no_elements = true
  elements_have_numbers (element j es) = has_numbers j && elements_have_numbers es

  pub fields_have_numbers : Fields → Bool
  fields_have_numbers no_fields = true
  fields_have_numbers (field n j fs) = has_numbers j && fields_have_numbers fs

-- ---- its value

abbrev pub date_or_object : Option ℤ → List (List ℕ × Tree) → Tree
date_or_object None ms = tree.object (tree.members_of ms)
date_or_object (Some n) ms = tree.date n

abbrev pub object_value : List (List ℕ × Tree) → Tree
object_value ms = date_or_object (date_of ms) ms

abbrev mutual
  pub tree_of : Json → Tree
  tree_of null = tree.null
  tree_of (boolean b) = tree.boolean b
  tree_of (number None) = tree.null
  tree_of (number (Some n)) = tree.number n
  tree_of (string s) = tree.text s
  tree_of (array es) = tree.list (elements_of es)
  tree_of (object fs) = object_value (with_fields [] fs)

  pub elements_of : Elements → tree.Elements
  elements_of no_elements = tree.no_elements
  elements_of (element j es) = tree.element (tree_of j) (elements_of es)

  -- these members, and then those of the fields
  pub with_fields : List (List ℕ × Tree) → Fields → List (List ℕ × Tree)
  with_fields ms no_fields = ms
  with_fields ms (field n j fs) = with_fields (put_member n (tree_of j) ms) fs

abbrev pub erased : List Placed → List Token
erased ts = map (λ p. p.token) ts

-- the bytes spell this value, written so
pub record Spells (bytes : List ℕ) (j : Json) (v : Tree) : Type 0 where
  pub utf8 : IsUtf8 bytes
  pub text : erased (tokens bytes) ≡ text_tokens j
  pub levels : levels j ≤ 32
  pub numbers : IsTrue (has_numbers j)
  pub value : tree_of j ≡ v

-- the bytes spell the value v
abbrev pub Reads : List ℕ → Tree → Type 0
Reads bytes v = (j : Json) × Spells bytes j v
