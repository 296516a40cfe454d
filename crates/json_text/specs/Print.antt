-- The canonical text of a value.
use Rattle.std.specs.Prelude.{ℕ, zero, suc, ◌+◌, ◌-◌, ◌/◌, ◌%◌, ◌^◌, min, ℤ, pos, negsuc, List, [], ◌∷◌, ◌++◌, length, take, ◌≡◌, Bool, true, false, if◌then◌else◌, ◌==◌, nat_lt, decimal}
use Rattle.std.specs.List.{flat_map}
use Rattle.std.specs.Char.{digit_char}
use Rattle.std.specs.Fmt.{signed_decimal}
use Rattle.json_tree.specs.Tree.{Tree, null, boolean, number, text, date, list, object, Elements, no_elements, element, Members, no_members, member}

-- what stands in a string for the byte x
unfoldable pub escaped : ℕ → List ℕ
escaped x =
    if x == 34 then 92 ∷ 34 ∷ []
    else (if x == 92 then 92 ∷ 92 ∷ []
    else (if x == 8 then 92 ∷ 98 ∷ []
    else (if x == 9 then 92 ∷ 116 ∷ []
    else (if x == 10 then 92 ∷ 110 ∷ []
    else (if x == 12 then 92 ∷ 102 ∷ []
    else (if x == 13 then 92 ∷ 114 ∷ []
    else (if nat_lt x 32 then 92 ∷ 117 ∷ 48 ∷ 48 ∷ digit_char (x / 16) ∷ digit_char (x % 16) ∷ []
    else (x ∷ []))))))))

abbrev pub string_text : List ℕ → List ℕ
string_text s = 34 ∷ (flat_map escaped s ++ 34 ∷ [])

-- ---- numbers

-- the k digits of n, zeros in front included
unfoldable pub padded : ℕ → ℕ → List ℕ
padded zero n = []
padded (suc k) n = (48 + n / 10 ^ k) ∷ padded k (n % 10 ^ k)

-- the same without the zeros at the end
unfoldable pub trimmed : ℕ → ℕ → List ℕ
trimmed zero n = []
trimmed (suc k) n = if n % 10 == 0 then trimmed k (n / 10) else padded (suc k) n

abbrev pub with_point : List ℕ → List ℕ
with_point [] = []
with_point (d ∷ ds) = 46 ∷ d ∷ ds

-- of n units of 10^-18
abbrev pub magnitude_text : ℕ → List ℕ
magnitude_text n = decimal (n / 10 ^ 18) ++ with_point (trimmed 18 (n % 10 ^ 18))

abbrev pub number_text : ℤ → List ℕ
number_text (pos n) = magnitude_text n
number_text (negsuc n) = 45 ∷ magnitude_text (suc n)

-- ---- values

abbrev pub boolean_text : Bool → List ℕ
boolean_text true = 116 ∷ 114 ∷ 117 ∷ 101 ∷ []
boolean_text false = 102 ∷ 97 ∷ 108 ∷ 115 ∷ 101 ∷ []

-- `{"$date":N}`
abbrev pub date_text : ℤ → List ℕ
date_text n = 123 ∷ 34 ∷ 36 ∷ 100 ∷ 97 ∷ 116 ∷ 101 ∷ 34 ∷ 58 ∷ (signed_decimal n ++ 125 ∷ [])

abbrev mutual
  pub text_of : Tree → List ℕ
  text_of null = 110 ∷ 117 ∷ 108 ∷ 108 ∷ []
  text_of (boolean b) = boolean_text b
  text_of (number n) = number_text n
  text_of (text s) = string_text s
  text_of (date n) = date_text n
  text_of (list vs) = 91 ∷ (elements_text vs ++ 93 ∷ [])
  text_of (object ms) = 123 ∷ (members_text ms ++ 125 ∷ [])

  pub elements_text : Elements → List ℕ
  elements_text no_elements = []
  elements_text (element v vs) = text_of v ++ more_elements vs

  pub more_elements : Elements → List ℕ
  more_elements no_elements = []
  more_elements (element v vs) = 44 ∷ (text_of v ++ more_elements vs)

  pub members_text : Members → List ℕ
  members_text no_members = []
  members_text (member n v ms) = string_text n ++ 58 ∷ (text_of v ++ more_members ms)

  pub more_members : Members → List ℕ
  more_members no_members = []
  more_members (member n v ms) = 44 ∷ (string_text n ++ 58 ∷ (text_of v ++ more_members ms))

-- what stands before a part, which is the first one or not
abbrev pub separator : Bool → List ℕ
separator true = []
separator false = 44 ∷ []

-- a count that stops at the end of 64 bits
abbrev pub capped : ℕ → ℕ
capped n = min n (2 ^ 64 - 1)

-- the old bytes stand in front of the new ones
abbrev pub Extends : List ℕ → List ℕ → Type 0
Extends old new = take (length old) new ≡ old
