-- Clauses that do nothing a second time, at the same moment.
use Rattle.std.specs.Prelude.{Bool, true, false, List}
use Rattle.std.specs.List.{list_all}
use Rattle.update_ops.specs.Clauses.{Effect, set, set_on_insert, add_to_set, current_date, Clause}
use Rattle.update_ops.specs.Clauses as e
use Rattle.update_ops.specs.Forms.{is_scalar}

-- those of `$set`, `$setOnInsert`, `$min`, `$max`, `$addToSet` and `$currentDate`
abbrev pub is_steady : Effect → Bool
is_steady (set x) = true
is_steady (set_on_insert x) = true
is_steady (e.min x) = is_scalar x
is_steady (e.max x) = is_scalar x
is_steady (add_to_set xs) = true
is_steady current_date = true
is_steady w = false

abbrev pub are_steady : List Clause → Bool
are_steady cs = list_all (λ c. is_steady c.effect) cs
