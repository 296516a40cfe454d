use Rattle.column_table.proofs.table.Table.rows_after.Given as goal

abbrev pub ghosts-after_from : goal.ghosts-after_from
ghosts-after_from a = record { name = a.blank.name; parts = a.blank.parts }
