use Rattle.std.proofs.Common.{refl, subst}
use Rattle.json_tree.specs.Tree.{Tree}
use Rattle.cmd_tasks.specs.Many.{doing_of, form_of}
use Rattle.cmd_tasks.specs.Outcomes.{changed, Tells}
use Rattle.cmd_tasks.proofs.one.attempted.Goals as goal

pub returns-in-Ok : goal.returns-in-Ok
returns-in-Ok c = (
  refl,
  (
    c.args.attempt,
    c.in-Ok.reply,
    record {
      id = c.requires.0;
      read = c.requires.1;
      change = c.requires.2;
      ready_to = c.requires.3;
      tells = subst (λ (d : Tree). Tells (doing_of c.args.one.doing) (form_of c.args.one.form) (changed c.args.attempt.change d) c.in-Ok.reply) c.doc.ensures.value c.in-Ok.ensures;
    },
    refl,
  ),
)
