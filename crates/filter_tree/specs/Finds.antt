-- What the filter that a value spells says of a document.
use Rattle.std.specs.Prelude.{ℕ, Bool, List}
use Rattle.json_tree.specs.Tree.{Tree, object, no_members, member}
use Rattle.filter_tree.specs.Matches.{matches}
use Rattle.filter_tree.specs.Reads.{filter_in}

abbrev pub finds : Tree → Tree → Bool
finds filter d = matches (filter_in filter) d

-- `{NAME: X}`
abbrev pub just : List ℕ → Tree → Tree
just name x = object (member name x no_members)

-- `{NAME: {OPERATOR: X}}`
abbrev pub asks : List ℕ → List ℕ → Tree → Tree
asks name operator x = just name (just operator x)
