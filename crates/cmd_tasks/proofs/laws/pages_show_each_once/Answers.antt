use Rattle.cmd_tasks.proofs.Client.{pages_shown}
use Rattle.cmd_tasks.proofs.laws.pages_show_each_once.Goals as goal

pub returns : goal.returns
returns c base history coll f shows pages sorted told are = pages_shown base history coll f shows c.page_states_are_one.ensures sorted pages told are
