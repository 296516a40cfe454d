-- The rows after an id.
use Rattle.std.specs.Prelude.{Option}
use Rattle.std.specs.List.{filter}
use Rattle.json_tree.specs.Tree.{Tree}
use Rattle.shred_cols.specs.Rows.{Rows, is_after}

-- in order of id
abbrev pub rows_after : Option Tree → Rows → Rows
rows_after after rows = filter (λ e. is_after after e.0) rows
