use Rattle.std.proofs.Common.{refl, subst, inl}
use Rattle.json_tree.specs.Tree.{Tree}
use Rattle.cmd_tasks.specs.Many.{doing_of, form_of}
use Rattle.cmd_tasks.specs.Outcomes.{unchanged, TellsChange}
use Rattle.cmd_tasks.proofs.Replies.{unchanged_told}
use Rattle.cmd_tasks.proofs.one.left_alone.Goals as goal

pub returns-in-Ok : goal.returns-in-Ok
returns-in-Ok c = (
  refl,
  inl (unchanged_told (doing_of c.args.one.doing) (form_of c.args.one.form) c.args.row.now.doc c.in-Ok.reply c.requires
      (subst (λ (d : Tree). TellsChange (form_of c.args.one.form) (unchanged d) c.in-Ok.reply) c.doc.ensures.value c.in-Ok.ensures)),
)
