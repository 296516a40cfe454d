-- Which part of what was found a page shows, and where the next page begins.
use Rattle.std.specs.Prelude.{ℕ, ◌+◌, ◌-◌, ◌^◌, List, [], ◌∷◌, take, drop, length, min, Bool, ◌==◌, ◌&&◌, ◌||◌, nat_lt, Option, None, Some, if◌then◌else◌}
use Rattle.std.specs.Option.{option_map}
use Rattle.json_tree.specs.Tree.{Tree}
use Rattle.view_sort.specs.Sort.{SortKeys}
use Rattle.view_sort.specs.Page.{state_text}
use Rattle.view_sort.specs.declared.page.PageState.{PageState}
use Rattle.cmd_grammar.specs.Commands.{Paging}
use Rattle.cmd_tasks.specs.Trace.{Found}
use Rattle.cmd_tasks.specs.Pages.{last_of}

-- how many documents the earlier pages gave
abbrev pub given_of : Option PageState → ℕ
given_of None = 0
given_of (Some page) = page.given

-- a page without a sort begins behind the last document that was given
abbrev pub from_of : Paging → Option Tree
from_of p = option_map (λ page. page.last) p.page

-- how many documents the page may show: 20, or what the limit leaves of them
abbrev pub most_of : Paging → ℕ
most_of p = if p.limit == 0 then 20 else min 20 (p.limit - given_of p.page)

-- how many have to be found for it
abbrev pub keep_of : Paging → ℕ
keep_of p = p.skip + most_of p

-- the documents of the page
abbrev pub part_of : Paging → List Found → List Found
part_of p xs = take (most_of p) (drop p.skip xs)

-- the page is full, and the limit isn't reached with it
abbrev pub has_next : Paging → ℕ → Bool
has_next p shown = (shown == 20) && ((p.limit == 0) || nat_lt (given_of p.page + shown) p.limit)

-- the state that the next page goes on with: how many were given by all pages so far, and the last one's id; a sort has none
abbrev pub state_after : SortKeys → Paging → List Found → Option (List ℕ)
state_after [] p part = if has_next p (length part) then option_map (λ x. state_text (min (given_of p.page + length part) (2 ^ 63 - 1)) x.id) (last_of part) else None
state_after (key ∷ keys) p part = None
