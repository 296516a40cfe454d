use Rattle.std.proofs.Common.{None, [], refl}
use Rattle.cmd_tasks.specs.Served.{sights}
use Rattle.cmd_tasks.specs.Jobs.{drops}
use Rattle.cmd_tasks.specs.declared.work.State.TheVariants.{Dropping}
use Rattle.cmd_tasks.proofs.Glances.{looked_here}
use Rattle.cmd_tasks.proofs.Requests.{failed_leads}
use Rattle.cmd_tasks.proofs.collections.drop_collection.Goals as goal

pub returns-in-Same-clause-steps : goal.returns-in-Same-clause-steps
returns-in-Same-clause-steps g c = let told = c.in-Same.ensures.answers in looked_here c.args.by _ _ _ _ c.mark.result c.in-Same.at None None [] told.0.1 told.0.0 c.mark.ensures

pub returns-in-Fault-clause-leads : goal.returns-in-Fault-clause-leads
returns-in-Fault-clause-leads g c = λ base told_base trace placed way.
    let told = c.in-Fault.ensures.answers in
    failed_leads base c.args.coll.now c.args.by drops tt Dropping refl (sights c.args.store.now.journal trace) c.args.store.now.journal c.drop_coll.new.self.journal c.in-Fault.at c.in-Fault.before c.in-Fault.after c.failed.result way.0 told.entered told.point c.failed.ensures
