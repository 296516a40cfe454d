-- The order of paths by their parts. In it the paths that begin with the parts of another one stand directly behind it.
use Rattle.std.specs.Prelude.{ℕ, List}
use Rattle.std.specs.declared.cmp.Ordering.{Ordering}
use Rattle.std.specs.Ordering.{nat_cmp, on}
use Rattle.std.specs.Cmp.{IsTotalOrder}
use Rattle.std.specs.Cmp.Lexicographic.{slice_cmp}
use Rattle.std.proofs.lemmas.Cmp.{on_total, lists_total, nat_cmp_total}
use Rattle.doc_paths.specs.Text.{parts}

abbrev pub parts_cmp : List (List ℕ) → List (List ℕ) → Ordering
parts_cmp = slice_cmp (slice_cmp nat_cmp)

abbrev pub path_cmp : List ℕ → List ℕ → Ordering
path_cmp = on parts parts_cmp

pub path_cmp-total : IsTotalOrder path_cmp
path_cmp-total = on_total parts (lists_total (lists_total nat_cmp_total))
