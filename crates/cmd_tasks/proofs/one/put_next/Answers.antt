use Rattle.std.proofs.Common.{refl}
use Rattle.filter_tree.specs.View.{filter_tree}
use Rattle.cmd_tasks.specs.Many.{doing_of, form_of}
use Rattle.cmd_tasks.proofs.Replies.{put_told}
use Rattle.cmd_tasks.proofs.one.put_next.Goals as goal

pub returns-in-Ok : goal.returns-in-Ok
returns-in-Ok c = (refl, (c.args.doc, c.in-Ok.reply, c.requires.document, c.requires.limits, put_told (filter_tree c.args.one.search.wanted.filter) (doing_of c.args.one.doing) (form_of c.args.one.form) c.args.doc c.in-Ok.reply c.requires.document c.in-Ok.ensures, refl))
