-- The equalities that a filter asks for.
use Rattle.std.specs.Prelude.{ℕ, List, [], ◌∷◌, ◌++◌}
use Rattle.json_tree.specs.Tree.{Tree}
use Rattle.filter_tree.specs.Filters.{TestTree, eq, FilterTree, all, any, negated, on, FilterTrees, no_filters, filter}

-- what a test at a path asks for: `$eq` that the value there equals its operand, other tests nothing
abbrev pub asked : List ℕ → TestTree → List (List ℕ × Tree)
asked path (eq x) = (path, x) ∷ []
asked path test = []

-- The path and the operand of each `$eq` that has to hold whenever the filter does, in written order: where all filters
-- have to hold, those of each. Where any may, or one may not, none has to.
abbrev mutual
  pub equalities : FilterTree → List (List ℕ × Tree)
  equalities (all fs) = equalities_in fs
  equalities (any fs) = []
  equalities (negated f) = []
  equalities (on path test) = asked path test

  pub equalities_in : FilterTrees → List (List ℕ × Tree)
  equalities_in no_filters = []
  equalities_in (filter f fs) = equalities f ++ equalities_in fs
