use Rattle.std.proofs.Common.{length}
use Rattle.column_table.proofs.tests.shown.Given as goal

abbrev pub decreases-rows : goal.decreases-rows
decreases-rows l = length l.rows
