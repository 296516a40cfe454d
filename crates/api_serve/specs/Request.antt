-- Requests, as lines ask for them.
use Rattle.std.specs.Prelude.{◌≡◌, ℕ, ◌≤◌, Bool, true, false, not, ◌&&◌, ◌==◌, nat_le, IsTrue, List, [], ◌∷◌, ◌++◌, length, Option, Some, None, codes, ◌⊎◌}
use Rattle.std.specs.List.{list_all}
use Rattle.reply_env.specs.declared.request.Request.{Request}

-- a byte of a part of a path: visible ASCII, and no `/`
abbrev pub is_part_byte : ℕ → Bool
is_part_byte b = nat_le 0x21 b && nat_le b 0x7e && not (b == 47)

-- a part of a path has one byte at least
abbrev pub is_part : List ℕ → Bool
is_part [] = false
is_part (b ∷ bytes) = list_all is_part_byte (b ∷ bytes)

abbrev pub collection_path : Option (List ℕ) → List ℕ
collection_path None = []
collection_path (Some name) = 47 ∷ name

-- what stands in a line: the parts of its path, and its body
pub record Parts : Type 0 where
  pub keyspace : List ℕ
  pub collection : Option (List ℕ)
  pub body : List ℕ

-- `/v1/` and the one part or two
abbrev pub path_of : Parts → List ℕ
path_of parts = codes "/v1/" ++ parts.keyspace ++ collection_path parts.collection

abbrev pub is_collection_part : Option (List ℕ) → Bool
is_collection_part None = true
is_collection_part (Some name) = is_part name

-- the line is the path, one space, and the body of at most 20,000,000 bytes
pub record Spells (line : List ℕ) (parts : Parts) : Type 0 where
  pub text : line ≡ path_of parts ++ 32 ∷ parts.body
  pub keyspace : IsTrue (is_part parts.keyspace)
  pub collection : IsTrue (is_collection_part parts.collection)
  pub body : length parts.body ≤ 20000000

abbrev pub parts_of : Request → Parts
parts_of request = record { keyspace = request.place.keyspace; collection = request.place.collection; body = request.body.items }

-- the line asks for this request
abbrev pub Asks : List ℕ → Request → Type 0
Asks line request = Spells line (parts_of request)

-- a line that asks for nothing: it is empty, or a CR alone
abbrev pub is_skipped : List ℕ → Bool
is_skipped [] = true
is_skipped (b ∷ []) = b == 13
is_skipped (b ∷ c ∷ bytes) = false

-- a line of the right form: it asks for nothing, or for a request
abbrev pub IsRightLine : List ℕ → Type 0
IsRightLine line = IsTrue (is_skipped line) ⊎ ((parts : Parts) × Spells line parts)

-- the lines ask for these requests, in order; the others ask for nothing
abbrev pub AskFor : List (List ℕ) → List Request → Type 0
AskFor [] requests = requests ≡ []
AskFor (line ∷ lines) requests =
    (IsTrue (is_skipped line) × AskFor lines requests)
    ⊎ ((request : Request) × (others : List Request) × Asks line request × (requests ≡ request ∷ others) × AskFor lines others)

abbrev pub AreRightLines : List (List ℕ) → Type 0
AreRightLines [] = Unit {0}
AreRightLines (line ∷ lines) = IsRightLine line × AreRightLines lines

-- no line that begins so is of the right form
abbrev pub IsHopeless : List ℕ → Type 0
IsHopeless part = (more : List ℕ) → IsRightLine (part ++ more) → ⊥
