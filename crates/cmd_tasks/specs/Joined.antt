-- The pages of one find, joined by their states.
use Rattle.std.specs.Prelude.{◌≡◌, ℕ, ℤ, true, List, [], ◌∷◌, map, Option, Some, None, MatchOption, ⊤}
use Rattle.std.specs.List.{flat_map, AllByRecursion as Each}
use Rattle.json_tree.specs.Tree.{Tree}
use Rattle.json_tree.specs.View.{tree}
use Rattle.json_tree.specs.Id.{IsId, IsInRange}
use Rattle.shred_cols.specs.Row.{Version}
use Rattle.shred_cols.specs.Rows.{is_after}
use Rattle.col_keeper.specs.Tables.{Name}
use Rattle.filter_tree.specs.Filters.{FilterTree}
use Rattle.filter_tree.specs.Matches.{matches}
use Rattle.view_sort.specs.View.{view}
use Rattle.view_sort.specs.declared.page.PageState.{PageState}
use Rattle.reply_env.specs.declared.reply.Reply.{Reply}
use Rattle.reply_env.specs.declared.reply.Reply.TheVariants.{Listed}
use Rattle.store_core.specs.State.{State}
use Rattle.store_core.specs.declared.entry.Entry.{Entry}
use Rattle.cmd_grammar.specs.Commands.{Shows, Paging, find}
use Rattle.cmd_grammar.specs.Parts.{Spells}
use Rattle.cmd_tasks.specs.Trace.{Sight, Found, rows_now, shown_by, shown}
use Rattle.cmd_tasks.specs.Attempts.{IsOneOf}
use Rattle.cmd_tasks.specs.Searches.{stored}
use Rattle.cmd_tasks.specs.Part.{part_of}
use Rattle.cmd_tasks.specs.Served.{sights, IsServed}
use Rattle.cmd_tasks.specs.declared.trace.Item.{Item}
use Rattle.cmd_tasks.specs.declared.trace.Item.TheVariants.{Looked, Wrote, Lost, Faulted}

-- ---- told ids

-- an id that key bytes can tell from all others, as each `DocId` is
abbrev pub HasKey : Tree → Type 0
HasKey id = IsId id × IsInRange id

-- what the item shows, it shows under such ids
abbrev pub IdsAreTold : Item → Type 0
IdsAreTold (Looked at after up shown) = Each (λ e. HasKey e.0) shown.items
IdsAreTold (Wrote at) = ⊤
IdsAreTold (Lost at read found) = ⊤
IdsAreTold (Faulted at before count) = ⊤

-- ---- pages

-- A request for a page as it was served: with this page state, or with none if it asks for the first page
pub record Page : Type 0 where
  pub session : ℕ
  pub moment : ℤ
  pub from : Option PageState
  pub trace : List Item
  pub reply : Reply

-- the reply lists documents
abbrev pub Lists : Reply → Type 0
Lists (Listed views state) = ⊤
Lists reply = ⊥

-- the documents of the reply, as they are shown
abbrev pub views_of : Reply → List Tree
views_of (Listed views state) = map tree views.items
views_of reply = []

-- the state that the reply gives for the next page
abbrev pub state_of : Reply → Option (List ℕ)
state_of (Listed views state) = state
state_of reply = None

-- a page is asked for with the state that the page before it gave
abbrev pub GoesOnWith : Option (List ℕ) → Option PageState → Type 0
GoesOnWith None from = ⊥
GoesOnWith (Some text) from = MatchOption from ⊥ (Spells text)

-- what a page asks for: neither a limit nor documents to skip
abbrev pub paging_of : Page → Paging
paging_of p = record { limit = 0; skip = 0; page = p.from }

-- each document comes after those before it, by id
abbrev pub Rise : List Found → Type 0
Rise [] = ⊤
Rise (x ∷ xs) = Each (λ y. is_after (Some x.id) y.id ≡ true) xs × Rise xs

-- what all pages looked at
abbrev pub looks : List Entry → List Page → List Sight
looks H pages = flat_map (λ p. sights H p.trace) pages

module _ (base : State) (coll : Name) (f : FilterTree) where
  -- the document stands under the id at the point of this look, and matches
  abbrev pub Matches : Tree → Version → Sight → Type 0
  Matches id v s = IsOneOf (id, v) (rows_now base coll s) × (matches f v.doc ≡ true)

  -- a matching document stands under the id
  abbrev pub HasMatch : Tree → Sight → Type 0
  HasMatch id s = (v : Version) × Matches id v s

module _ (base : State) (H : List Entry) (coll : Name) (f : FilterTree) where
  -- the documents of all pages, one page after another
  abbrev pub joined : List Page → List Found
  joined pages = flat_map (λ p. part_of (paging_of p) (shown base coll f (sights H p.trace))) pages

  module _ (shows : Shows) where
    -- the page was served, as a find without a sort
    abbrev pub IsPage : Page → Type 0
    IsPage p = IsServed base H coll p.session p.moment [] (find f [] shows (paging_of p)) p.trace p.reply × Lists p.reply

    -- the further pages: each goes on with the state of the page before it, and the last one gave none
    abbrev pub GoOn : List Page → Option (List ℕ) → Type 0
    GoOn [] state = state ≡ None
    GoOn (p ∷ ps) state = GoesOnWith state p.from × IsPage p × GoOn ps (state_of p.reply)

    -- all pages, from the first one to the last
    abbrev pub ArePages : List Page → Type 0
    ArePages [] = ⊥
    ArePages (p ∷ ps) = (p.from ≡ None) × IsPage p × GoOn ps (state_of p.reply)

    -- The pages show documents in order of id, so none twice; each as it matched at the point of the look that
    -- showed it; and one of each id under which a document matched at the points of all looks
    pub record ShowEachOnce (pages : List Page) : Type 0 where
      pub told : flat_map (λ p. views_of p.reply) pages ≡ map (λ x. view shows x.doc) (joined pages)
      pub rise : Rise (joined pages)
      pub matched : Each (λ x. (s : Sight) × IsOneOf s (looks H pages) × IsOneOf x (shown_by base coll f s) × Matches base coll f x.id (stored x) s) (joined pages)
      pub all : (id : Tree) → Each (HasMatch base coll f id) (looks H pages) → (x : Found) × IsOneOf x (joined pages) × (x.id ≡ id)
