use Rattle.filter_tree.proofs.Asking.{each_holds}
use Rattle.filter_tree.proofs.laws.equalities_hold.Goals as goal

pub returns : goal.returns
returns c = each_holds
