-- What a path shows after a change elsewhere.
use Rattle.std.specs.Prelude.{◌≡◌, ◌⊎◌, Option, Some, None}
use Rattle.json_tree.specs.Tree.{Tree, null}

-- the same as before, or a null that pads a list
abbrev pub StillShows : Option Tree → Option Tree → Type 0
StillShows old new = (new ≡ old) ⊎ ((old ≡ None) × (new ≡ Some null))
