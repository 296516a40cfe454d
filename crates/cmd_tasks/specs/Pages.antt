-- A page of rows as a look.
use Rattle.std.specs.Prelude.{ℕ, Bool, true, false, List, [], ◌∷◌, Option, Some, None}
use Rattle.std.specs.Option.{option_map}
use Rattle.json_tree.specs.Tree.{Tree}
use Rattle.shred_cols.specs.Row.{Version, id_of}
use Rattle.cmd_tasks.specs.Trace.{Found}

abbrev pub pair_of : Version → Tree × ℕ
pair_of v = (id_of v.doc, v.tx)

abbrev pub found_row : Version → Found
found_row v = record { id = id_of v.doc; tx = v.tx; doc = v.doc }

abbrev pub last_of : {A : Type 0} → List A → Option A
last_of [] = None
last_of (x ∷ []) = Some x
last_of (x ∷ y ∷ xs) = last_of (y ∷ xs)

-- where the look that shows this page ends: at the end, or with the last row
abbrev pub up_of : Bool → List Version → Option Tree
up_of true page = None
up_of false page = option_map (λ v. id_of v.doc) (last_of page)
