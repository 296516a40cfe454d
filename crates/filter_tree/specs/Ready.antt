-- Filters that can be planned: what the reader of filters gives is so.
use Rattle.std.specs.Prelude.{◌^◌, nat_lt, Bool, true, ◌&&◌, List, [], ◌∷◌}
use Rattle.json_tree.specs.Tree.{Tree}
use Rattle.json_tree.specs.Writable.{IsWritable}
use Rattle.filter_tree.specs.Paths.{is_path}
use Rattle.filter_tree.specs.Filters.{TestTree, eq, ne, gt, gte, lt, lte, among, not_among, exists, every, size, FilterTree, all, any, negated, on, FilterTrees, no_filters, filter}
use Rattle.filter_tree.specs.Faults.{is_ordered}

-- operands that are compared have an order, and lengths have 32 bits
abbrev pub is_ready_test : TestTree → Bool
is_ready_test (eq x) = true
is_ready_test (ne x) = true
is_ready_test (gt x) = is_ordered x
is_ready_test (gte x) = is_ordered x
is_ready_test (lt x) = is_ordered x
is_ready_test (lte x) = is_ordered x
is_ready_test (among xs) = true
is_ready_test (not_among xs) = true
is_ready_test (exists b) = true
is_ready_test (every xs) = true
is_ready_test (size n) = nat_lt n (2 ^ 32)

abbrev mutual
  pub is_ready : FilterTree → Bool
  is_ready (all fs) = are_ready fs
  is_ready (any fs) = are_ready fs
  is_ready (negated f) = is_ready f
  is_ready (on path test) = is_path path && is_ready_test test

  pub are_ready : FilterTrees → Bool
  are_ready no_filters = true
  are_ready (filter f fs) = is_ready f && are_ready fs

-- ---- operands that texts can spell, so that none of them holds an object that stands for a date

abbrev pub AllWritable : List Tree → Type 0
AllWritable [] = Unit {0}
AllWritable (x ∷ xs) = IsWritable x × AllWritable xs

abbrev pub TestIsWritable : TestTree → Type 0
TestIsWritable (eq x) = IsWritable x
TestIsWritable (ne x) = IsWritable x
TestIsWritable (gt x) = IsWritable x
TestIsWritable (gte x) = IsWritable x
TestIsWritable (lt x) = IsWritable x
TestIsWritable (lte x) = IsWritable x
TestIsWritable (among xs) = AllWritable xs
TestIsWritable (not_among xs) = AllWritable xs
TestIsWritable (exists b) = Unit {0}
TestIsWritable (every xs) = AllWritable xs
TestIsWritable (size n) = Unit {0}

abbrev mutual
  pub FilterIsWritable : FilterTree → Type 0
  FilterIsWritable (all fs) = FiltersAreWritable fs
  FilterIsWritable (any fs) = FiltersAreWritable fs
  FilterIsWritable (negated f) = FilterIsWritable f
  FilterIsWritable (on path test) = TestIsWritable test

  pub FiltersAreWritable : FilterTrees → Type 0
  FiltersAreWritable no_filters = Unit {0}
  FiltersAreWritable (filter f fs) = FilterIsWritable f × FiltersAreWritable fs
