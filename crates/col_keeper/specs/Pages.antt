-- The rows that a walk gives.
use Rattle.std.specs.Prelude.{◌≡◌, ℕ, ◌≤◌, ◌&&◌, Bool, true, false, List, map, length, take, Option}
use Rattle.std.specs.List.{AllByRecursion as Each, filter}
use Rattle.json_tree.specs.Tree.{Tree}
use Rattle.shred_cols.specs.declared.probe.Probe.{Probe}
use Rattle.shred_cols.specs.Row.{Version, id_of}
use Rattle.shred_cols.specs.Rows.{Rows, ascends, keyed, is_after}
use Rattle.col_keeper.specs.Asked.{meets_document}
use Rattle.col_keeper.specs.Tables.{IsShort}

-- the rows after an id whose documents' columns meet the probe, in order of id
abbrev pub met_after : Probe → Option Tree → Rows → Rows
met_after probe after rows = filter (λ e. is_after after e.0 && meets_document probe e.1.doc) rows

-- the first of them
abbrev pub page_of : Probe → Option Tree → ℕ → Rows → Rows
page_of probe after up_to rows = take up_to (met_after probe after rows)

-- there are no more of them
abbrev pub IsEnd : Probe → Option Tree → ℕ → Rows → Type 0
IsEnd probe after up_to rows = length (met_after probe after rows) ≤ up_to

-- what is promised of the rows of any walk, whatever the keeper tells
pub record IsPage (after : Option Tree) (up_to : ℕ) (rows : List Version) (end : Bool) : Type 0 where
  pub most : length rows ≤ up_to
  pub ascends : ascends (map keyed rows) ≡ true
  pub above : Each (λ v. is_after after (id_of v.doc) ≡ true) rows
  pub goes_on : end ≡ false → 1 ≤ length rows
  pub short : Each (λ v. IsShort (id_of v.doc)) rows
