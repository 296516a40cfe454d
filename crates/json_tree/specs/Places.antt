-- The places of names in a list of pairs, kept in a map. Only the crate's private clauses cite it.
use Rattle.std.specs.Prelude.{◌≡◌, ℕ, suc, if◌then◌else◌, List, [], ◌∷◌, Option, Some, None, option_map}
use Rattle.std.specs.Str.{bytes_eq}
use Rattle.std.specs.Prelude.{String}
use Rattle.std.specs.BTreeMap.{BTreeMap, get_by_text}
use Rattle.json_tree.specs.Tree.{Tree}

-- where the name stands, if it does
abbrev pub place_in : List ℕ → List (List ℕ × Tree) → Option ℕ
place_in name [] = None
place_in name (p ∷ ps) = if bytes_eq p.0 name then Some 0 else option_map suc (place_in name ps)

-- the map has the place of each name
pub record IsPlaces {Y : Type 0} (m : BTreeMap (String Y) ℕ) (ps : List (List ℕ × Tree)) : Type 0 where
  pub at : (name : List ℕ) → get_by_text m name ≡ place_in name ps
