use Rattle.std.proofs.Common.{refl, rules}
use Rattle.cmd_tasks.proofs.Beginnings.{inserting_begins}
use Rattle.cmd_tasks.proofs.first.inserting.Goals as goal

pub returns : goal.returns
returns c = inserting_begins _ c.args.documents.items (search rules) (search rules) (search rules) (search rules) c.requires.storable c.requires.some c.requires.few
