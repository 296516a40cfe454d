use Rattle.column_table.proofs.tests.is_free.Given as goal

abbrev pub ghosts-is_free_from : goal.ghosts-is_free_from
ghosts-is_free_from a = record { name = a.blank.name; parts = a.blank.parts }
