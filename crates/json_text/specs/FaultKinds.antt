-- The first fault of a text.
use Rattle.std.specs.Prelude.{◌≡◌, ℕ, ◌+◌, ◌-◌, List, [], ◌∷◌, ◌++◌, Bool, true, false, IsTrue, None}
use Rattle.std.specs.Str.{IsUtf8, IsValidUpTo}
use Rattle.json_text.specs.Token.{Token, Placed, begin_object, end_object, begin_array, end_array, number}
use Rattle.json_text.specs.Lex.{tokens}
use Rattle.json_text.specs.Grammar.{Json, text_tokens, erased}

pub data Kind : Type 0 where
  syntax : Kind
  too_deep : Kind
  out_of_range : Kind

-- some text of the grammar begins with these tokens
abbrev pub Begins : List Token → Type 0
Begins ts = (j : Json) × (rest : List Token) × (text_tokens j ≡ ts ++ rest)

abbrev pub opens : Token → Bool
opens begin_object = true
opens begin_array = true
opens t = false

-- the levels that are open after these tokens, where n were open before
abbrev pub open_levels : ℕ → List Token → ℕ
open_levels n [] = n
open_levels n (begin_object ∷ ts) = open_levels (n + 1) ts
open_levels n (begin_array ∷ ts) = open_levels (n + 1) ts
open_levels n (end_object ∷ ts) = open_levels (n - 1) ts
open_levels n (end_array ∷ ts) = open_levels (n - 1) ts
open_levels n (t ∷ ts) = open_levels n ts

-- The token t has this fault, after the tokens before it: it is not allowed there, as a malformed one never is;
-- it opens a 33rd level; or its value is no number.
abbrev pub HasFault : List Token → Token → Kind → Type 0
HasFault before t syntax = Begins (before ++ t ∷ []) → ⊥
HasFault before t too_deep = Begins (before ++ t ∷ []) × IsTrue (opens t) × (open_levels 0 before ≡ 32)
HasFault before t out_of_range = Begins (before ++ t ∷ []) × (t ≡ number None)

-- none of these tokens has a fault
abbrev pub Faultless : List Token → Type 0
Faultless ts = (before : List Token) (t : Token) (after : List Token) (k : Kind) → ts ≡ before ++ t ∷ after → HasFault before t k → ⊥

-- the first token with a fault has this one, and stands at this place
pub record FirstFault (ts : List Placed) (k : Kind) (at : ℕ) : Type 0 where
  pub before : List Placed
  pub token : Placed
  pub after : List Placed
  pub split : ts ≡ before ++ token ∷ after
  pub place : token.at ≡ at
  pub fault : HasFault (erased before) token.token k
  pub first : Faultless (erased before)

-- the fault of bytes that are UTF-8
pub record TextFaultAt (bytes : List ℕ) (k : Kind) (at : ℕ) : Type 0 where
  pub utf8 : IsUtf8 bytes
  pub first : FirstFault (tokens bytes) k at

-- the length of the longest front that is UTF-8, where it isn't all
pub record NotUtf8At (bytes : List ℕ) (at : ℕ) : Type 0 where
  pub not_utf8 : IsUtf8 bytes → ⊥
  pub longest : IsValidUpTo bytes at
