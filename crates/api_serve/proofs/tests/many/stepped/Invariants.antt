use Rattle.api_serve.proofs.Contests.{Contends}
use Rattle.api_serve.proofs.tests.many.stepped.Given as goal

abbrev pub invariant-steps : goal.invariant-steps
invariant-steps l = Contends l.fn.task.session l.other l.store.start l.store.journal l.task
