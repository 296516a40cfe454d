use Rattle.cmd_tasks.proofs.Extension.{served_more}
use Rattle.cmd_tasks.proofs.laws.what_was_served_stays.Goals as goal

pub returns : goal.returns
returns c = served_more
