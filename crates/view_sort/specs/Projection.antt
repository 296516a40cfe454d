-- Projections: their reading, and their first fault.
use Rattle.std.specs.Prelude.{ℕ, suc, ℤ, pos, negsuc, Bool, true, false, ◌&&◌, ◌||◌, not, List, [], ◌∷◌, ◌++◌, codes, Option, Some, None, option_map, if◌then◌else◌}
use Rattle.std.specs.List.{list_any, flat_map}
use Rattle.std.specs.Str.{bytes_eq}
use Rattle.std.specs.Ordering.{int_eq}
use Rattle.json_tree.specs.Tree.{Tree, boolean, number, list, object, list_of_elements, list_of_members}
use Rattle.json_tree.specs.Dates.{whole_i64}
use Rattle.doc_paths.specs.Text.{parts}
use Rattle.view_sort.specs.Sort.{one, is_path}
use Rattle.view_sort.specs.declared.fault.ViewFault.{ViewFault}
use Rattle.view_sort.specs.declared.fault.ViewFault.TheVariants.{BadProjection}
use Rattle.view_sort.specs.declared.show.Show.{Show}
use Rattle.view_sort.specs.declared.show.Show.TheVariants as v

-- ---- what an operand says

-- a number that is whole and within 64 bits
abbrev pub whole_in : Tree → Option ℤ
whole_in (number n) = whole_i64 n
whole_in t = None

-- the first n elements, or the last -n
abbrev pub of_count : ℤ → Show
of_count (pos n) = v.Slice (pos 0) n
of_count (negsuc n) = v.Slice (negsuc n) (suc n)

-- n elements from s on, n being positive
abbrev pub window : Option ℤ → Option ℤ → Option Show
window (Some s) (Some (pos (suc n))) = Some (v.Slice s (suc n))
window s n = None

abbrev pub window_in : List Tree → Option Show
window_in (s ∷ n ∷ []) = window (whole_in s) (whole_in n)
window_in ts = None

abbrev pub slice_of : Tree → Option Show
slice_of (number n) = option_map of_count (whole_i64 n)
slice_of (list ts) = window_in (list_of_elements ts)
slice_of t = None

abbrev pub slice_in : List (List ℕ × Tree) → Option Show
slice_in (p ∷ []) = if bytes_eq p.0 (codes "$slice") then slice_of p.1 else None
slice_in ps = None

-- 1 or true, 0 or false, or a slice
abbrev pub show_of : Tree → Option Show
show_of (boolean b) = Some (if b then v.On else v.Off)
show_of (number n) = if int_eq n one then Some v.On else (if int_eq n (pos 0) then Some v.Off else None)
show_of (object ms) = slice_in (list_of_members ms)
show_of t = None

abbrev pub option_list : {X : Type 0} → Option X → List X
option_list None = []
option_list (Some x) = x ∷ []

-- the path and what is said of it, where the name is a path and the value says something
abbrev pub rules_of : List ℕ × Tree → List (List ℕ × Show)
rules_of p = option_list (if is_path p.0 then option_map (λ show. (p.0, show)) (show_of p.1) else None)

-- ---- which rules go together

abbrev pub id_name : List ℕ
id_name = codes "_id"

abbrev pub is_id : List ℕ → Bool
is_id path = bytes_eq path id_name

abbrev pub begins_with_id : List (List ℕ) → Bool
begins_with_id [] = false
begins_with_id (part ∷ more) = bytes_eq part id_name

abbrev pub is_below_id : List ℕ → Bool
is_below_id path = begins_with_id (parts path) && not (is_id path)

abbrev pub is_on : Show → Bool
is_on v.On = true
is_on v.Off = false
is_on (v.Slice s n) = false

abbrev pub is_off : Show → Bool
is_off v.On = false
is_off v.Off = true
is_off (v.Slice s n) = false

abbrev pub is_slice : Show → Bool
is_slice v.On = false
is_slice v.Off = false
is_slice (v.Slice s n) = true

-- one path begins the other
abbrev pub leads : List (List ℕ) → List (List ℕ) → Bool
leads [] ys = true
leads (x ∷ xs) [] = false
leads (x ∷ xs) (y ∷ ys) = bytes_eq x y && leads xs ys

abbrev pub overlap : List ℕ → List ℕ → Bool
overlap p q = leads (parts p) (parts q) || leads (parts q) (parts p)

abbrev pub is_opposite : Show → Show → Bool
is_opposite v.On v.Off = true
is_opposite v.Off v.On = true
is_opposite s t = false

-- some path other than `_id` has 1, and some has 0
abbrev pub says_on : List (List ℕ × Show) → Bool
says_on rules = list_any (λ r. not (is_id r.0) && is_on r.1) rules

abbrev pub says_off : List (List ℕ × Show) → Bool
says_off rules = list_any (λ r. not (is_id r.0) && is_off r.1) rules

-- 0 and 1 at paths other than `_id`
abbrev pub mixes : List ℕ × Show → List ℕ × Show → Bool
mixes r e = not (is_id r.0) && (not (is_id e.0) && is_opposite r.1 e.1)

-- a rule may follow earlier ones
abbrev pub fits : List (List ℕ × Show) → List ℕ × Show → Bool
fits earlier r = not (is_below_id r.0) && (not (is_id r.0 && is_slice r.1) && (not (list_any (λ e. overlap r.0 e.0) earlier) && not (list_any (mixes r) earlier)))

-- ---- reading

abbrev pub all_fit : List (List ℕ × Show) → List (List ℕ × Show) → Bool
all_fit earlier [] = false
all_fit earlier (r ∷ rs) = fits earlier r

-- the first member that is none of a projection, after the earlier rules
abbrev pub bad_rule : List (List ℕ × Show) → List (List ℕ × Tree) → Option ViewFault
bad_rule earlier [] = None
bad_rule earlier (p ∷ ps) = if all_fit earlier (rules_of p) then bad_rule (earlier ++ rules_of p) ps else Some (BadProjection p.0)

abbrev pub projection_fault : Tree → Option ViewFault
projection_fault (object ms) = bad_rule [] (list_of_members ms)
projection_fault t = Some (BadProjection [])

abbrev pub projection_in : Tree → List (List ℕ × Show)
projection_in (object ms) = flat_map rules_of (list_of_members ms)
projection_in t = []
