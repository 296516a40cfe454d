use Rattle.json_tree.proofs.Ids.{id_cmp-total, id_ties}
use Rattle.json_tree.proofs.laws.ids_are_ordered.Goals as goal

pub returns : goal.returns
returns c = record { total = id_cmp-total; apart = id_ties }
