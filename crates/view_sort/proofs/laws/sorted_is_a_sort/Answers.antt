use Rattle.view_sort.proofs.OneSort.{sorts_itself}
use Rattle.view_sort.proofs.laws.sorted_is_a_sort.Goals as goal

pub returns : goal.returns
returns c = sorts_itself
