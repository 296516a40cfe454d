use Rattle.std.proofs.Common.{refl}
use Rattle.filter_tree.specs.View.{filter_tree}
use Rattle.cmd_tasks.specs.Many.{doing_of, form_of}
use Rattle.cmd_tasks.proofs.Replies.{unput_told}
use Rattle.cmd_tasks.proofs.one.missed.Goals as goal

pub returns-in-Err : goal.returns-in-Err
returns-in-Err c = (refl, unput_told (filter_tree c.args.one.search.wanted.filter) (doing_of c.args.one.doing) (form_of c.args.one.form) c.declined.result c.in-Err.fault c.in-Err.ensures.told c.declined.ensures.cut c.declined.ensures.told)
