-- Each value inside is smaller than the value that holds it.
use Rattle.std.specs.Prelude.{ℕ, ◌+◌, ◌≤◌, ◌≡◌, List, [], ◌∷◌, map, refl}
use Rattle.std.proofs.Common.{arith, ap}
use denote.Param.Weighed.{most}
use Rattle.json_tree.specs.Tree.{trees_size, pairs_size, tree_size, elements_of, members_of, elements_size, members_size, Tree}
use Rattle.json_tree.specs.View.{tree, pair_of}
use Rattle.json_tree.specs.declared.value.Value.{Value}
use Rattle.json_tree.specs.declared.value.Value.TheVariants as v
use Rattle.json_tree.specs.declared.value.Items.TheDeep.{deep-Value}
use Rattle.json_tree.specs.declared.value.Items.TheShapes.{weighed-Members-pairs-at-2}

pub elements_size-elements_of : (ts : List Tree) → elements_size (elements_of ts) ≡ trees_size ts
elements_size-elements_of [] = refl
elements_size-elements_of (t ∷ ts) = ap (λ n. tree_size t + n) (elements_size-elements_of ts)

pub members_size-members_of : (ps : List (List ℕ × Tree)) → members_size (members_of ps) ≡ pairs_size ps
members_size-members_of [] = refl
members_size-members_of (p ∷ ps) = ap (λ n. tree_size p.1 + n) (members_size-members_of ps)

pub value_falls : (x : Value) → deep-Value x ≤ tree_size (tree x)
value_falls v.Null = omega arith
value_falls (v.Bool b) = omega arith
value_falls (v.Num n) = omega arith
value_falls (v.Text t) = omega arith
value_falls (v.Date d) = omega arith
value_falls (v.List ts) = omega (arith, elements_size-elements_of ts)
value_falls (v.Object ps) = omega (arith, members_size-members_of ps)

pub items_fall : (xs : List Value) → most deep-Value xs ≤ trees_size (map tree xs)
items_fall [] = omega arith
items_fall (x ∷ xs) = omega (arith, value_falls x, items_fall xs)

pub pairs_fall : (ps : List (List ℕ × Value)) → most (λ x. weighed-Members-pairs-at-2.weight Value deep-Value x) ps ≤ pairs_size (map pair_of ps)
pairs_fall [] = omega arith
pairs_fall (p ∷ ps) = omega (arith, value_falls p.1, pairs_fall ps)
