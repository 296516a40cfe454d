use Rattle.view_sort.proofs.OneSort.{first_of_pages}
use Rattle.view_sort.proofs.laws.first_of_pages_are_first.Goals as goal

pub returns : goal.returns
returns c = first_of_pages c.ids_are_ordered.ensures.apart
