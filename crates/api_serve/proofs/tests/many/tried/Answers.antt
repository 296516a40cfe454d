use Rattle.std.proofs.Common.{ℕ, ◌<◌, sym, subst, ◌∙◌}
use Rattle.store_core.specs.Counts.{opened_in}
use Rattle.api_serve.proofs.tests.many.tried.Goals as goal

pub stepped-requires-clause-known : goal.stepped-requires-clause-known
stepped-requires-clause-known c = (subst (λ (k : ℕ). k < opened_in c.args.store.now.journal) (sym c.task_of-task.ensures.session) c.requires.known.0, c.requires.known.1)

pub stepped-requires-clause-apart : goal.stepped-requires-clause-apart
stepped-requires-clause-apart c = λ e. c.requires.apart (sym c.task_of-task.ensures.session ∙ e)

pub stepped-requires-clause-stands : goal.stepped-requires-clause-stands
stepped-requires-clause-stands c = c.task_of-task.ensures.stands c.args.store.now.start c.args.store.now.journal
