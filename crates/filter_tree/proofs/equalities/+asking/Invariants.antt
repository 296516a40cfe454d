use Rattle.std.proofs.Common.{◌≡◌, ◌++◌, map, take}
use Rattle.std.specs.List.{flat_map}
use Rattle.filter_tree.specs.View.{filter_tree, equality_of}
use Rattle.filter_tree.specs.Equalities.{equalities}
use Rattle.filter_tree.proofs.equalities.+asking.Given as goal

abbrev pub invariant-ask_all-loop-filter : goal.invariant-ask_all-loop-filter
invariant-ask_all-loop-filter l =
    map equality_of l.found.items ≡ map equality_of l.fn.found.items ++ flat_map (λ f. equalities (filter_tree f)) (take l.filter-index l.filters)
