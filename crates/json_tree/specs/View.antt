-- The tree that a value of the program is.
use Rattle.std.specs.Prelude.{ℕ, List}
use Rattle.json_tree.specs.Tree.{Tree, null, boolean, number, text, date, list, object, elements_of, members_of}
use Rattle.json_tree.specs.declared.value.Value.{Value}
use Rattle.json_tree.specs.declared.value.Value.TheVariants as v

abbrev pub tree : Value → Tree
tree v.Null = null
tree (v.Bool b) = boolean b
tree (v.Num n) = number n
tree (v.Text t) = text t
tree (v.Date d) = date d
tree (v.List ts) = list (elements_of ts)
tree (v.Object ps) = object (members_of ps)

abbrev pub pair_of : List ℕ × Value → List ℕ × Tree
pair_of p = (p.0, tree p.1)
