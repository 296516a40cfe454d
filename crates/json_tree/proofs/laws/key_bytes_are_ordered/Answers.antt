use Rattle.json_tree.proofs.Ids.{key_order, key_distinct}
use Rattle.json_tree.proofs.laws.key_bytes_are_ordered.Goals as goal

pub returns : goal.returns
returns c = record { order = key_order; apart = key_distinct }
