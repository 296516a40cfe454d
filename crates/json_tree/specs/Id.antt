-- Ids: null, truth values, numbers, non-empty texts and dates; their order, and the bytes that keep it.
use Rattle.std.specs.Prelude.{◌≡◌, ◌≢◌, MatchOption, ℕ, suc, ◌+◌, ◌-◌, ◌^◌, ℤ, pos, negsuc, cond, List, [], ◌∷◌, Option, Some, None}
use Rattle.std.specs.Int.{w64, bytes_high_first}
use Rattle.std.specs.Int.RustNames.{FitsSigned}
use Rattle.std.specs.Str.{IsUtf8}
use Rattle.std.specs.declared.cmp.Ordering.{Ordering}
use Rattle.std.specs.Ordering.{nat_cmp, int_cmp, on, then_cmp}
use Rattle.std.specs.Cmp.Lexicographic.{slice_cmp}
use Rattle.json_tree.specs.Num.{IsNumber}
use Rattle.json_tree.specs.Tree.{Tree, null, boolean, number, text, date, list, object}
use Rattle.json_tree.specs.declared.fault.TreeFault.{TreeFault}
use Rattle.json_tree.specs.declared.fault.TreeFault.TheVariants.{BadIdKind, EmptyId}

-- why a value is no id
abbrev pub id_fault : Tree → Option TreeFault
id_fault null = None
id_fault (boolean b) = None
id_fault (number n) = None
id_fault (text []) = Some EmptyId
id_fault (text (x ∷ t)) = None
id_fault (date d) = None
id_fault (list ts) = Some BadIdKind
id_fault (object ps) = Some BadIdKind

abbrev pub IsId : Tree → Type 0
IsId t = id_fault t ≡ None

-- within what a value of the program may be
abbrev pub IsInRange : Tree → Type 0
IsInRange null = Unit {0}
IsInRange (boolean b) = Unit {0}
IsInRange (number n) = IsNumber n
IsInRange (text t) = IsUtf8 t
IsInRange (date d) = FitsSigned w64 d
IsInRange (list ts) = Unit {0}
IsInRange (object ps) = Unit {0}

-- ---- the order

abbrev pub id_tag : Tree → ℕ
id_tag (text t) = 1
id_tag (number n) = 2
id_tag (boolean b) = 3
id_tag null = 4
id_tag (date d) = 5
id_tag (list ts) = 6
id_tag (object ps) = 7

-- the bytes of a text
abbrev pub id_text : Tree → List ℕ
id_text (text t) = t
id_text null = []
id_text (boolean b) = []
id_text (number n) = []
id_text (date d) = []
id_text (list ts) = []
id_text (object ps) = []

-- the units of a number, 0 for false and 1 for true, the milliseconds of a date
abbrev pub id_number : Tree → ℤ
id_number (number n) = n
id_number (boolean b) = cond b (pos 1) (pos 0)
id_number (date d) = d
id_number null = pos 0
id_number (text t) = pos 0
id_number (list ts) = pos 0
id_number (object ps) = pos 0

-- by tag, then by the text's bytes, then by the number
abbrev pub id_cmp : Tree → Tree → Ordering
id_cmp = then_cmp (on id_tag nat_cmp) (then_cmp (on id_text (slice_cmp nat_cmp)) (on id_number int_cmp))

-- ---- the key bytes

-- the bits of a signed number of h + 1 bits, as two's complement has them, with the top bit inverted
abbrev pub top_inverted : ℕ → ℤ → ℕ
top_inverted h (pos n) = 2 ^ h + n
top_inverted h (negsuc n) = 2 ^ h - suc n

-- 16 bytes, the highest first
unfoldable pub number_bytes : ℤ → List ℕ
number_bytes n = bytes_high_first 16 (top_inverted 127 n)

-- 8 bytes, the highest first
unfoldable pub date_bytes : ℤ → List ℕ
date_bytes d = bytes_high_first 8 (top_inverted 63 d)

-- a tag byte, and what it is followed by
abbrev pub key_of : Tree → List ℕ
key_of (text t) = 1 ∷ t
key_of (number n) = 2 ∷ number_bytes n
key_of (boolean b) = 3 ∷ cond b 1 0 ∷ []
key_of null = 4 ∷ []
key_of (date d) = 5 ∷ date_bytes d
key_of (list ts) = []
key_of (object ps) = []

-- what is read of key bytes: the id that has them, and none where no id has them
abbrev pub IsIdOf : List ℕ → Option Tree → Type 0
IsIdOf bytes read = MatchOption read ((t : Tree) → IsId t → IsInRange t → key_of t ≢ bytes) (λ d. (key_of d ≡ bytes) × IsId d × IsInRange d)
