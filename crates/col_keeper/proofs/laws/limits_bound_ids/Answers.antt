use Rattle.col_keeper.proofs.ShortIds.{short_id}
use Rattle.col_keeper.proofs.laws.limits_bound_ids.Goals as goal

pub returns : goal.returns
returns c = short_id
