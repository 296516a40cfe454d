use Rattle.cmd_tasks.proofs.steps.marked.Goals as goal

pub returns : goal.returns
returns c = λ e h. (c.mark-item.ensures, c.refuse-reply.ensures e h)
