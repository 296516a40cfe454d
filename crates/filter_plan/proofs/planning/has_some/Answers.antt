use Rattle.filter_plan.proofs.Making.{kept_steps}
use Rattle.filter_plan.proofs.planning.has_some.Goals as goal

pub returns : goal.returns
returns c = kept_steps c.args.path.now c.in_ok-path.path c.args.operands.now c.in_ok-kepts.kepts c.in_ok-path.ensures c.in_ok-kepts.ensures
