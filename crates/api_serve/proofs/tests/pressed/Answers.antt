use Rattle.std.proofs.Common.{ℕ, ◌<◌, sym, subst, ◌∙◌}
use Rattle.store_core.specs.Counts.{opened_in}
use Rattle.api_serve.proofs.tests.pressed.Goals as goal

pub contended-requires-clause-known : goal.contended-requires-clause-known
contended-requires-clause-known c = (subst (λ (k : ℕ). k < opened_in c.args.store.now.journal) (sym c.task_of.ensures.session) c.requires.known.0, c.requires.known.1)

pub contended-requires-clause-apart : goal.contended-requires-clause-apart
contended-requires-clause-apart c = λ e. c.requires.apart (sym c.task_of.ensures.session ∙ e)

pub contended-requires-clause-stands : goal.contended-requires-clause-stands
contended-requires-clause-stands c = c.task_of.ensures.stands c.args.store.now.start c.args.store.now.journal
