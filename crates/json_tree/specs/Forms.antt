-- The bytes of a text, wherever they stand. Only the crate's private clauses cite it.
use Rattle.std.specs.Prelude.{ℕ, List}
use Rattle.std.specs.Arc.{arc_str_bytes}
use Rattle.json_tree.specs.declared.text.Form.{Form}
use Rattle.json_tree.specs.declared.text.Form.TheVariants.{Short, Long}

abbrev pub form_bytes : Form → List ℕ
form_bytes (Short s) = s
form_bytes (Long s) = arc_str_bytes s
