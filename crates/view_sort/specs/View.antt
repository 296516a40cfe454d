-- What a projection shows.
use Rattle.std.specs.Prelude.{ℕ, ◌-◌, suc, ℤ, pos, negsuc, Bool, false, ◌&&◌, ◌||◌, not, List, [], ◌∷◌, ◌++◌, map, take, drop, length, Option, Some, None, if◌then◌else◌}
use Rattle.std.specs.List.{list_any}
use Rattle.std.specs.Str.{bytes_eq}
use Rattle.json_tree.specs.Tree.{Tree, null, boolean, number, text, date, list, object, Members, no_members, member, elements_of, list_of_elements}
use Rattle.doc_paths.specs.Text.{parts}
use Rattle.view_sort.specs.Projection.{is_id, id_name, is_on, says_on}
use Rattle.view_sort.specs.declared.show.Show.{Show}
use Rattle.view_sort.specs.declared.show.Show.TheVariants as v

abbrev pub only_id : List (List ℕ × Show) → Bool
only_id (r ∷ []) = is_id r.0 && is_on r.1
only_id rs = false

-- some path other than `_id` has 1, or `_id` has 1 and is the only path: the rest isn't shown
abbrev pub includes : List (List ℕ × Show) → Bool
includes rules = says_on rules || only_id rules

-- ---- the rules at a value: the parts that are left, and what is said of the path

abbrev pub rests : List (List ℕ × Show) → List (List (List ℕ) × Show)
rests rules = map (λ r. (parts r.0, r.1)) rules

-- of the whole document; what includes shows `_id` too, where no path names it
abbrev pub whole_rests : List (List ℕ × Show) → List (List (List ℕ) × Show)
whole_rests rules = if includes rules && not (list_any (λ r. is_id r.0) rules) then (parts id_name, v.On) ∷ rests rules else rests rules

abbrev pub step : List ℕ → List (List ℕ) × Show → List (List (List ℕ) × Show)
step name ([], show) = []
step name (part ∷ more, show) = if bytes_eq part name then (more, show) ∷ [] else []

-- of the member of this name
abbrev pub under : List ℕ → List (List (List ℕ) × Show) → List (List (List ℕ) × Show)
under name [] = []
under name (r ∷ rs) = step name r ++ under name rs

-- what is said of the value itself
abbrev pub said : List (List (List ℕ) × Show) → Option Show
said [] = None
said (([], show) ∷ rs) = Some show
said ((part ∷ more, show) ∷ rs) = said rs

-- ---- what is shown

-- where a slice of so many elements begins
abbrev pub slice_start : ℤ → ℕ → ℕ
slice_start (pos n) len = n
slice_start (negsuc n) len = len - suc n

abbrev pub sliced : ℤ → ℕ → Tree → Tree
sliced s n (list ts) = list (elements_of (take n (drop (slice_start s (length (list_of_elements ts))) (list_of_elements ts))))
sliced s n t = t

abbrev pub by_show : Option Show → Tree → Option Tree → Option Tree
by_show (Some v.On) t inner = Some t
by_show (Some v.Off) t inner = None
by_show (Some (v.Slice s n)) t inner = Some (sliced s n t)
by_show None t inner = inner

abbrev pub whole_if : Bool → Tree → Option Tree
whole_if keeps t = if keeps then Some t else None

-- a value of which these are the rules; `inner` is what is shown where they lead further inside
abbrev pub chosen : Bool → List (List (List ℕ) × Show) → Tree → Option Tree → Option Tree
chosen keeps [] t inner = whole_if keeps t
chosen keeps (r ∷ rs) t inner = by_show (said (r ∷ rs)) t inner

abbrev pub with_member : List ℕ → Option Tree → Members → Members
with_member name None ms = ms
with_member name (Some t) ms = member name t ms

-- where paths lead further inside, what no path names is kept or not; they go through objects alone
abbrev mutual
  pub inside : Bool → List (List (List ℕ) × Show) → Tree → Option Tree
  inside keeps rs null = whole_if keeps null
  inside keeps rs (boolean b) = whole_if keeps (boolean b)
  inside keeps rs (number n) = whole_if keeps (number n)
  inside keeps rs (text t) = whole_if keeps (text t)
  inside keeps rs (date d) = whole_if keeps (date d)
  inside keeps rs (list ts) = whole_if keeps (list ts)
  inside keeps rs (object ms) = Some (object (shown keeps rs ms))

  pub shown : Bool → List (List (List ℕ) × Show) → Members → Members
  shown keeps rs no_members = no_members
  shown keeps rs (member name t ms) = with_member name (chosen keeps (under name rs) t (inside keeps (under name rs) t)) (shown keeps rs ms)

-- a document by the rules of a projection
abbrev pub view : List (List ℕ × Show) → Tree → Tree
view rules (object ms) = object (shown (not (includes rules)) (whole_rests rules) ms)
view rules t = t
