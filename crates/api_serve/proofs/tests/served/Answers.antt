use Rattle.std.proofs.Common.{ℕ, ◌<◌, sym, subst}
use Rattle.store_core.specs.Counts.{opened_in}
use Rattle.api_serve.proofs.tests.served.Goals as goal

pub serve-requires-clause-known : goal.serve-requires-clause-known
serve-requires-clause-known c = subst (λ (k : ℕ). k < opened_in c.args.store.now.journal) (sym c.task_of.ensures.session) c.requires.known

pub serve-requires-clause-begun : goal.serve-requires-clause-begun
serve-requires-clause-begun c = (c.task_of.ensures.empty, c.task_of.ensures.stands c.args.store.now.start c.args.store.now.journal)
