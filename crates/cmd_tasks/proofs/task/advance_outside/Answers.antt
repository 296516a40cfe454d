use Rattle.std.proofs.Common.{sym, subst, rules, []}
use Rattle.cmd_tasks.specs.Moves.{Promises}
use Rattle.cmd_tasks.specs.declared.work.State.{State}
use Rattle.cmd_tasks.proofs.task.advance_outside.Goals as goal
use Rattle.cmd_tasks.proofs.task.advance_outside.Goals.{in-Naming, in-Unready}

pub returns-clause-leads : goal.returns-clause-leads
returns-clause-leads g c = elim c.match-state.branch [
  | in-Naming w ↦ subst (λ (s : State). Promises c.args.store.now.start [] c.args.by c.args.store.now.journal c.match-state.store.journal s c.match-state.result) (sym w.in-Naming.is) (search (rules, w.store-is, w.result-is, w.name_all.ensures.leads []))
  | in-Unready w ↦ subst (λ (s : State). Promises c.args.store.now.start [] c.args.by c.args.store.now.journal c.match-state.store.journal s c.match-state.result) (sym w.in-Unready.is) (search (rules, w.store-is, w.result-is))
]
