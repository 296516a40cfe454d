-- An input as lines. A line ends by LF, or by the end of the input.
use Rattle.std.specs.Prelude.{◌≡◌, ℕ, ◌+◌, ◌<◌, List, [], ◌∷◌, ◌++◌, length, take, drop, IsTrue}
use Rattle.std.specs.List.{flat_map, list_all}
use Rattle.api_serve.specs.Separated.{is_free_of}

-- these lines, an LF behind each
abbrev pub ended_lines : List (List ℕ) → List ℕ
ended_lines lines = flat_map (λ line. line ++ 10 ∷ []) lines

-- the bytes are these lines, an LF behind each, and then a rest without an LF
pub record Splits (bytes : List ℕ) (lines : List (List ℕ)) (rest : List ℕ) : Type 0 where
  pub text : bytes ≡ ended_lines lines ++ rest
  pub each : IsTrue (list_all (is_free_of 10) lines)
  pub last : IsTrue (is_free_of 10 rest)

-- what stands behind the last LF is a line too, unless it is nothing
abbrev pub last_line : List ℕ → List (List ℕ)
last_line [] = []
last_line (b ∷ bytes) = (b ∷ bytes) ∷ []

-- the input has these lines
pub record HasLines (input : List ℕ) (lines : List (List ℕ)) : Type 0 where
  pub ended : List (List ℕ)
  pub rest : List ℕ
  pub split : Splits input ended rest
  pub all : lines ≡ ended ++ last_line rest

-- the bytes begin with these lines, an LF behind each
pub record BeginsWith (bytes : List ℕ) (lines : List (List ℕ)) : Type 0 where
  pub rest : List ℕ
  pub text : bytes ≡ ended_lines lines ++ rest
  pub each : IsTrue (list_all (is_free_of 10) lines)

-- the first line has this length, and an LF stands behind it
pub record IsLineLen (bytes : List ℕ) (len : ℕ) : Type 0 where
  pub within : len < length bytes
  pub free : IsTrue (is_free_of 10 (take len bytes))
  pub text : bytes ≡ take len bytes ++ 10 ∷ drop (len + 1) bytes
