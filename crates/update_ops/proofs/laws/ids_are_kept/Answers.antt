use Rattle.update_ops.proofs.Documents.{same_id, keeps_limits}
use Rattle.update_ops.proofs.laws.ids_are_kept.Goals as goal

pub returns-clause-id : goal.returns-clause-id
returns-clause-id c = same_id

pub returns-clause-limits : goal.returns-clause-limits
returns-clause-limits c = keeps_limits
