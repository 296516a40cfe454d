-- Updates of one operator on one path.
use Rattle.std.specs.Prelude.{ℕ, ℤ, Bool, List, Result}
use Rattle.json_tree.specs.Tree.{Tree, object, no_members, member}
use Rattle.update_ops.specs.Faults.{updates_in}
use Rattle.update_ops.specs.Apply.{apply}
use Rattle.update_ops.specs.declared.fault.UpdateFault.{UpdateFault}

-- `{NAME: X}`
abbrev pub just : List ℕ → Tree → Tree
just name x = object (member name x no_members)

-- what `{OPERATOR: {PATH: X}}` makes of a document
abbrev pub alone : List ℕ → List ℕ → Tree → ℤ → Bool → Tree → Result Tree UpdateFault
alone operator path x moment on_insert d = apply (updates_in (just operator (just path x))) d moment on_insert
