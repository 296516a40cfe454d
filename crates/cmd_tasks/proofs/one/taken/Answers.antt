use Rattle.std.proofs.Common.{refl}
use Rattle.cmd_tasks.specs.Many.{doing_of, form_of}
use Rattle.cmd_tasks.proofs.Replies.{refusal_told}
use Rattle.cmd_tasks.proofs.one.taken.Goals as goal

pub returns-in-Refused : goal.returns-in-Refused
returns-in-Refused c = (refl, refusal_told (doing_of c.args.one.doing) (form_of c.args.one.form) c.args.row.now.doc c.declined.result c.in-Refused.fault c.in-Refused.ensures c.declined.ensures.cut c.declined.ensures.told)
