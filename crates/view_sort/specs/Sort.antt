-- Sorts: their reading, and the order that they give.
use Rattle.std.specs.Prelude.{◌≡◌, ◌≢◌, ℕ, ℤ, pos, ◌^◌, ◌&&◌, neg_ℤ, Bool, true, false, List, [], ◌∷◌, map, take, Option, Some, None, is_some, not, if◌then◌else◌}
use Rattle.std.specs.List.{AllByRecursion}
use Rattle.std.specs.List.Sorted.{IsPermutation, IsSorted}
use Rattle.std.specs.declared.cmp.Ordering.{Ordering}
use Rattle.std.specs.declared.cmp.Ordering.TheVariants.{Equal}
use Rattle.std.specs.Ordering.{on, then_cmp, flip_args, int_eq}
use Rattle.json_tree.specs.Tree.{Tree, number, object, list_of_members}
use Rattle.json_tree.specs.Doc.{IsDocument}
use Rattle.json_tree.specs.Id.{id_cmp}
use Rattle.sqlite_keyed.specs.Lists.{sort_by}
use Rattle.doc_paths.specs.Text.{parts, path_fault}
use Rattle.doc_paths.specs.At.{at}
use Rattle.shred_cols.specs.Row.{Version, id_of}
use Rattle.shred_cols.specs.SortKey.{sort_key_of, key_cmp}
use Rattle.shred_cols.specs.declared.sort.SortKey.{SortKey}
use Rattle.view_sort.specs.declared.fault.ViewFault.{ViewFault}
use Rattle.view_sort.specs.declared.fault.ViewFault.TheVariants.{BadSort}

-- ---- reading

abbrev pub is_path : List ℕ → Bool
is_path text = not (is_some (path_fault text))

abbrev pub one : ℤ
one = pos (10 ^ 18)

-- the value is the number n of units
abbrev pub is_number : ℤ → Tree → Bool
is_number n (number m) = int_eq m n
is_number n t = false

-- 1 ascends
abbrev pub ascends : Tree → Bool
ascends t = is_number one t

-- 1 or -1
abbrev pub is_direction : Tree → Bool
is_direction t = if is_number one t then true else is_number (neg_ℤ one) t

-- the first member that is none of a sort
abbrev pub bad_key : List (List ℕ × Tree) → Option ViewFault
bad_key [] = None
bad_key (p ∷ ps) = if is_path p.0 && is_direction p.1 then bad_key ps else Some (BadSort p.0)

abbrev pub sort_fault : Tree → Option ViewFault
sort_fault (object ms) = bad_key (list_of_members ms)
sort_fault t = Some (BadSort [])

-- a path, and whether it ascends
abbrev pub key_of_member : List ℕ × Tree → List ℕ × Bool
key_of_member p = (p.0, ascends p.1)

abbrev pub sort_in : Tree → List (List ℕ × Bool)
sort_in (object ms) = map key_of_member (list_of_members ms)
sort_in t = []

-- ---- the order

-- paths, each with whether it ascends; none where there is no sort
abbrev pub SortKeys : Type 0
SortKeys = List (List ℕ × Bool)

abbrev pub directed : {X : Type 0} → Bool → (X → X → Ordering) → X → X → Ordering
directed true cmp = cmp
directed false cmp = flip_args cmp

-- the key of a document at a path
abbrev pub key_at : List ℕ → Tree → SortKey
key_at path d = sort_key_of (at d (parts path))

-- by the sort's paths, the first one first
abbrev pub keys_cmp : List (List ℕ × Bool) → Tree → Tree → Ordering
keys_cmp [] = λ d e. Equal
keys_cmp (key ∷ keys) = then_cmp (directed key.1 (on (key_at key.0) key_cmp)) (keys_cmp keys)

-- of what was found: by keys, and then by `_id`, which always ascends
abbrev pub found_cmp : List (List ℕ × Bool) → Version → Version → Ordering
found_cmp sort = then_cmp (on (λ f. f.doc) (keys_cmp sort)) (on (λ f. id_of f.doc) id_cmp)

-- ys is what was found, sorted
pub record IsSortOf (sort : List (List ℕ × Bool)) (xs ys : List Version) : Type 0 where
  pub same : IsPermutation xs ys
  pub ascending : IsSorted (found_cmp sort) ys

-- ys is the first `keep` of it
pub record IsFirstOf (sort : List (List ℕ × Bool)) (keep : ℕ) (xs ys : List Version) : Type 0 where
  pub sorted : List Version
  pub sorts : IsSortOf sort xs sorted
  pub first : ys ≡ take keep sorted

-- what was found, sorted
abbrev pub sorted : SortKeys → List Version → List Version
sorted sort xs = sort_by (found_cmp sort) xs

-- what was found has ids, and no id twice
abbrev pub HasIds : List Version → Type 0
HasIds [] = Unit {0}
HasIds (x ∷ xs) = (IsDocument x.doc × AllByRecursion (λ y. id_of x.doc ≢ id_of y.doc) xs) × HasIds xs
