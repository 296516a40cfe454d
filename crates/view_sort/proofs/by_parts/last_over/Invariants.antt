use Rattle.std.proofs.Common.{length}
use Rattle.view_sort.proofs.by_parts.last_over.Given as goal

abbrev pub decreases-passed : goal.decreases-passed
decreases-passed l = length l.passed.items
