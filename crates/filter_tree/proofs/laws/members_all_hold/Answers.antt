use Rattle.filter_tree.proofs.Written.{each_holds, any_order}
use Rattle.filter_tree.proofs.laws.members_all_hold.Goals as goal

pub returns-clause-each : goal.returns-clause-each
returns-clause-each c = each_holds

pub returns-clause-any_order : goal.returns-clause-any_order
returns-clause-any_order c = any_order
