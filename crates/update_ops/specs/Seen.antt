-- Values whose canonical texts are kept in a map. Only the crate's private clauses cite it.
use Rattle.std.specs.Prelude.{ℕ, Bool, List, is_some, String}
use Rattle.std.specs.List.{list_all}
use Rattle.std.specs.BTreeMap.{BTreeMap, get_by_text}
use Rattle.json_tree.specs.Tree.{Tree}
use Rattle.json_text.specs.Print.{text_of}

abbrev pub are_seen : {Y : Type 0} → BTreeMap (String Y) ℕ → List Tree → Bool
are_seen seen ts = list_all (λ t. is_some (get_by_text seen (text_of t))) ts
