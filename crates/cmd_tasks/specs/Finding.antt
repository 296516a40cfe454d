-- What a page adds to a search, told or not.
use Rattle.std.specs.Prelude.{◌≡◌, ◌⊎◌, ℕ, ◌+◌, ◌<◌, ◌≤◌, List, [], ◌∷◌, ◌++◌, length, take, Bool, true, false, nat_lt, Option, Some, None, ⊤}
use Rattle.std.specs.List.{AllByRecursion}
use Rattle.json_tree.specs.Tree.{Tree}
use Rattle.json_tree.specs.Doc.{IsDocument}
use Rattle.shred_cols.specs.Row.{Version}
use Rattle.view_sort.specs.Sort.{SortKeys, HasIds, sorted}
use Rattle.reply_env.specs.Messages as errors
use Rattle.cmd_tasks.specs.Searches.{bound}
use Rattle.cmd_tasks.specs.Looking.{AreShort, Refuses}
use Rattle.cmd_tasks.specs.declared.trace.Item.{Item}
use Rattle.cmd_tasks.specs.declared.work.Search.{Search}
use Rattle.cmd_tasks.specs.declared.work.Progress.{Progress}
use Rattle.cmd_tasks.specs.declared.work.Searched.{Searched}
use Rattle.cmd_tasks.specs.declared.work.Searched.TheVariants as r

-- rows in the order of the sort; without one, as they were found
abbrev pub ordered : SortKeys → List Version → List Version
ordered [] vs = vs
ordered (key ∷ keys) vs = sorted (key ∷ keys) vs

-- so many are more than are sorted
abbrev pub are_too_many : SortKeys → ℕ → Bool
are_too_many [] n = false
are_too_many (key ∷ keys) n = nat_lt 10000 n

abbrev pub AreDocuments : List Version → Type 0
AreDocuments = AllByRecursion (λ v. IsDocument v.doc)

-- the rows that a search keeps have such ids
abbrev pub KeepsShort : Searched → Type 0
KeepsShort (r.More i p) = AreShort p.kept.items
KeepsShort (r.Whole i p) = AreShort p.kept.items
KeepsShort (r.Stopped i reply) = ⊤
KeepsShort r.NoMemory = ⊤

-- whatever was found, if the first `keep` of it were kept, then these are the first `keep` of it with the page's rows
abbrev pub KeepsFirst : SortKeys → ℕ → List Version → List Version → List Version → Type 0
KeepsFirst sort keep kept rows first = (vs : List Version) → HasIds (vs ++ rows) → kept ≡ take keep (ordered sort vs) → first ≡ take keep (ordered sort (vs ++ rows))

-- the progress with the page's rows, behind which the next page begins at `last`
pub record IsAdded (search : Search) (p : Progress) (rows : List Version) (last : Option Tree) (p' : Progress) : Type 0 where
  pub last_is : p'.last ≡ last
  pub shown : p'.shown ≡ p.shown + length rows
  pub kept : KeepsFirst search.sort search.keep p.kept.items rows p'.kept.items
  pub documents : AreDocuments rows
  pub sortable : are_too_many search.sort p'.shown ≡ false

-- what a search makes of a page: it goes on behind it, or it is at its end, or more are found than are sorted
abbrev pub Adds : Search → Progress → Item → List Version → Option Tree → Searched → Type 0
Adds search p item rows last (r.More i p') = (i ≡ item) × IsAdded search p rows last p' × ((u : Tree) × (last ≡ Some u)) × (p'.shown < bound search.sort search.keep)
Adds search p item rows last (r.Whole i p') = (i ≡ item) × IsAdded search p rows last p' × ((last ≡ None) ⊎ (bound search.sort search.keep ≤ p'.shown))
Adds search p item rows last (r.Stopped i reply) = (i ≡ item) × (are_too_many search.sort (p.shown + length rows) ≡ true) × Refuses errors.too_many_to_sort reply
Adds search p item rows last r.NoMemory = ⊤
