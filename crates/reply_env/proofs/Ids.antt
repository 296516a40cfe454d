-- The texts of ids are UTF-8.
use Rattle.std.proofs.Common.{◌≤◌, ℤ, pos, negsuc, arith}
use Rattle.std.proofs.lemmas.Int.{ints}
use Rattle.std.specs.Int.{w64}
use Rattle.std.specs.Int.RustNames.{FitsSigned}
use Rattle.std.specs.Str.{IsUtf8}
use Rattle.json_tree.specs.Tree.{Tree, null, boolean, number, text, date, list, object}
use Rattle.json_tree.specs.Id.{IsId, IsInRange}
use Rattle.json_text.specs.Grammar.{Reads}
use Rattle.json_text.specs.Print.{text_of}
use Rattle.json_tree.specs.Writable.{IsWritable, IsI64, tree_levels}

date_fits : (d : ℤ) → FitsSigned w64 d → IsI64 d
date_fits (pos n) h = omega (arith, ints)
date_fits (negsuc n) h = omega (arith, ints)

id_writable : (t : Tree) → IsId t → IsInRange t → IsWritable t
id_writable null i r = tt
id_writable (boolean b) i r = tt
id_writable (number n) i r = r
id_writable (text s) i r = r
id_writable (date d) i r = date_fits d r
id_writable (list ts) i r = absurd (Prim.cc i)
id_writable (object ms) i r = absurd (Prim.cc i)

id_levels : (t : Tree) → IsId t → tree_levels t ≤ 32
id_levels null i = omega arith
id_levels (boolean b) i = omega arith
id_levels (number n) i = omega arith
id_levels (text s) i = omega arith
id_levels (date d) i = omega arith
id_levels (list ts) i = absurd (Prim.cc i)
id_levels (object ms) i = absurd (Prim.cc i)

-- where printed values are read again
pub id_is_utf8 : ((v : Tree) → IsWritable v → tree_levels v ≤ 32 → Reads (text_of v) v) → (t : Tree) → IsId t → IsInRange t → IsUtf8 (text_of t)
id_is_utf8 reads t i r = (reads t (id_writable t i r) (id_levels t i)).1.utf8
