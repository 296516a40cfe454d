-- What a command's value holds: its members, its options, and what they spell.
use Rattle.std.specs.Prelude.{◌≡◌, ◌<◌, ◌^◌, ◌/◌, ◌%◌, ◌==◌, nat_lt, ℕ, pos, Bool, false, ◌&&◌, List, [], Option, Some, None, ⊤, codes, unwrap_or, option_map, option_and_then, if◌then◌else◌}
use Rattle.std.specs.Str.{bytes_eq}
use Rattle.json_tree.specs.Tree.{Tree, null, boolean, number, text, list, object, no_members, list_of_elements, list_of_members}
use Rattle.json_tree.specs.Members.{member_at}
use Rattle.json_tree.specs.Id.{IsId, IsInRange}
use Rattle.filter_tree.specs.Filters.{FilterTree}
use Rattle.filter_tree.specs.Reads.{filter_in}
use Rattle.update_ops.specs.Clauses.{Clause}
use Rattle.update_ops.specs.Faults.{updates_in}
use Rattle.view_sort.specs.Projection.{projection_in}
use Rattle.view_sort.specs.Sort.{SortKeys, sort_in}
use Rattle.view_sort.specs.Page.{state_text}
use Rattle.view_sort.specs.declared.page.PageState.{PageState}
use Rattle.cmd_grammar.specs.Commands.{Shows}

-- ---- members and options

abbrev pub member_in : List ℕ → Tree → Option Tree
member_in name (object ms) = member_at name (list_of_members ms)
member_in name t = None

abbrev pub option_in : List ℕ → Tree → Option Tree
option_in name t = option_and_then (member_in name) (member_in (codes "options") t)

-- an absent member is `{}`
abbrev pub part_in : List ℕ → Tree → Tree
part_in name t = unwrap_or (member_in name t) (object no_members)

-- an absent member is null
abbrev pub value_in : List ℕ → Tree → Tree
value_in name t = unwrap_or (member_in name t) null

-- a whole number under 2^31, from its units of 10^-18
abbrev pub whole_in : Tree → Option ℕ
whole_in (number (pos n)) = if (n % 10 ^ 18 == 0) && nat_lt (n / 10 ^ 18) (2 ^ 31) then Some (n / 10 ^ 18) else None
whole_in t = None

abbrev pub boolean_in : Tree → Option Bool
boolean_in (boolean b) = Some b
boolean_in t = None

abbrev pub text_in : Tree → Option (List ℕ)
text_in (text s) = Some s
text_in t = None

abbrev pub elements_in : Tree → List Tree
elements_in (list ts) = list_of_elements ts
elements_in t = []

-- it is this text
abbrev pub is_text : List ℕ → Tree → Bool
is_text s (text t) = bytes_eq t s
is_text s t = false

-- an absent number is 0
abbrev pub number_in : List ℕ → Tree → ℕ
number_in name t = unwrap_or (option_and_then whole_in (option_in name t)) 0

-- an absent truth value is false
abbrev pub flag_in : List ℕ → Tree → Bool
flag_in name t = unwrap_or (option_and_then boolean_in (option_in name t)) false

-- ---- what they spell

abbrev pub filter_of : Tree → FilterTree
filter_of t = filter_in (part_in (codes "filter") t)

abbrev pub updates_of : Tree → List Clause
updates_of t = updates_in (part_in (codes "update") t)

abbrev pub sort_of : Tree → SortKeys
sort_of t = sort_in (part_in (codes "sort") t)

abbrev pub shows_of : Tree → Shows
shows_of t = projection_in (part_in (codes "projection") t)

abbrev pub document_of : Tree → Tree
document_of t = value_in (codes "document") t

abbrev pub documents_of : Tree → List Tree
documents_of t = elements_in (value_in (codes "documents") t)

abbrev pub replacement_of : Tree → Tree
replacement_of t = value_in (codes "replacement") t

abbrev pub limit_of : Tree → ℕ
limit_of t = number_in (codes "limit") t

abbrev pub skip_of : Tree → ℕ
skip_of t = number_in (codes "skip") t

abbrev pub ordered_of : Tree → Bool
ordered_of t = flag_in (codes "ordered") t

abbrev pub upsert_of : Tree → Bool
upsert_of t = flag_in (codes "upsert") t

-- `returnDocument` is "after"; absent, it is "before"
abbrev pub after_of : Tree → Bool
after_of t = unwrap_or (option_map (is_text (codes "after")) (option_in (codes "returnDocument") t)) false

-- the text of a page state; null is none
abbrev pub page_text : Tree → Option (List ℕ)
page_text t = option_and_then text_in (option_in (codes "pageState") t)

-- the name of a collection, where it is a text
abbrev pub name_text : Tree → Option (List ℕ)
name_text t = text_in (value_in (codes "name") t)

abbrev pub name_of : Tree → List ℕ
name_of t = unwrap_or (name_text t) []

-- ---- page states

-- the text spells this page state
pub record Spells (s : List ℕ) (state : PageState) : Type 0 where
  pub spells : state_text state.given state.last ≡ s
  pub given : state.given < 2 ^ 63
  pub is_id : IsId state.last
  pub in_range : IsInRange state.last

-- the page state of a text, or none where there is no text
abbrev pub IsPage : Option (List ℕ) → Option PageState → Type 0
IsPage None None = ⊤
IsPage (Some s) (Some state) = Spells s state
IsPage s page = ⊥

-- there is a text, and it spells no page state
abbrev pub IsNoPage : Option (List ℕ) → Type 0
IsNoPage None = ⊥
IsNoPage (Some s) = (state : PageState) → Spells s state → ⊥
