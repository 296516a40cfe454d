use Rattle.std.proofs.Common.{refl, sym, subst}
use Rattle.cmd_tasks.specs.ManySteps.{EndsAfter}
use Rattle.cmd_tasks.specs.declared.work.Moved.{Moved}
use Rattle.cmd_tasks.specs.declared.work.Moved.TheVariants as m
use Rattle.cmd_tasks.proofs.many.ends_after.Goals as goal

pub returns-in-Ends : goal.returns-in-Ends
returns-in-Ends c = subst (λ (z : Moved). EndsAfter c.args.doing.now c.args.stand.now z (m.Ends c.in-Ends.item c.told_after.result)) (sym c.in-Ends.is) (refl, λ error refuses st m n. c.told_after.ensures.refuses st error m n refuses)
