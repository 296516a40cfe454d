use Rattle.filter_tree.proofs.Written.{operators_hold}
use Rattle.filter_tree.proofs.laws.operators_all_hold.Goals as goal

pub returns : goal.returns
returns c = operators_hold
