use Rattle.std.proofs.Common.{sym, ap, ◌∙◌, List, Option}
use Rattle.std.specs.Option.{option_copied}
use Rattle.json_tree.specs.Tree.{Tree}
use Rattle.column_table.specs.After.{rows_after}
use Rattle.shred_cols.specs.Rows.{Rows}
use Rattle.column_table.specs.Spot.{joined}
use Rattle.column_table.proofs.Nexts.{after_none}
use Rattle.column_table.proofs.table.Table.rows_after.Goals as goal

pub returns-in-None-clause-rows : goal.returns-in-None-clause-rows
returns-in-None-clause-rows c = rw (← c.self.view_is) (c.new-in-None.ensures.rows ∙ ap (λ (cs : List Rows). joined cs) c.deref-in-None.ensures.value ∙ sym (after_none (joined c.self.inside.chunks.items)) ∙ ap (λ (o : Option Tree). rows_after o (joined c.self.inside.chunks.items)) (ap option_copied (sym c.in-None.is)))
