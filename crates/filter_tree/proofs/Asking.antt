-- Each equality that a filter asks for holds where the filter does.
use Rattle.std.proofs.Common.{◌≡◌, ℕ, true, List, [], ◌∷◌, ◌++◌}
use Rattle.std.specs.List.{AllByRecursion as Each}
use Rattle.std.proofs.lemmas.Bool.{and_parts}
use Rattle.json_tree.specs.Tree.{Tree}
use Rattle.doc_paths.specs.Text.{parts}
use Rattle.doc_paths.specs.At.{at}
use Rattle.filter_tree.specs.Filters.{TestTree, eq, FilterTree, all, any, negated, on, FilterTrees, no_filters, filter}
use Rattle.filter_tree.specs.Matches.{holds, matches, all_match}
use Rattle.filter_tree.specs.Equalities.{asked, equalities, equalities_in}

abbrev IsMet : Tree → List ℕ × Tree → Type 0
IsMet d e = holds (eq e.1) (at d (parts e.0)) ≡ true

both : (d : Tree) (xs ys : List (List ℕ × Tree)) → Each (IsMet d) xs → Each (IsMet d) ys → Each (IsMet d) (xs ++ ys)
both d [] ys h k = k
both d (x ∷ xs) ys h k = (h.0, both d xs ys h.1 k)

asked_holds : (path : List ℕ) (test : TestTree) (d : Tree) → holds test (at d (parts path)) ≡ true → Each (IsMet d) (asked path test)
asked_holds path (eq x) d h = (h, tt)
asked_holds path test d h = tt

mutual
  pub each_holds : (f : FilterTree) (d : Tree) → matches f d ≡ true → Each (IsMet d) (equalities f)
  each_holds (all fs) d h = all_hold fs d h
  each_holds (any fs) d h = tt
  each_holds (negated f) d h = tt
  each_holds (on path test) d h = asked_holds path test d h

  all_hold : (fs : FilterTrees) (d : Tree) → all_match fs d ≡ true → Each (IsMet d) (equalities_in fs)
  all_hold no_filters d h = tt
  all_hold (filter f fs) d h =
      let p = and_parts (matches f d) (all_match fs d) h in
      both d (equalities f) (equalities_in fs) (each_holds f d p.0) (all_hold fs d p.1)
