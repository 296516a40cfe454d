use Rattle.std.proofs.Common.{None, [], refl, ◌∙◌}
use Rattle.cmd_tasks.specs.Served.{sights}
use Rattle.cmd_tasks.specs.Jobs.{names}
use Rattle.cmd_tasks.specs.declared.work.State.TheVariants.{Naming}
use Rattle.cmd_tasks.proofs.Glances.{looked_here}
use Rattle.cmd_tasks.proofs.Requests.{failed_leads}
use Rattle.cmd_tasks.proofs.Shapes.{names_serves}
use Rattle.cmd_tasks.proofs.collections.name_all.Goals as goal

pub returns-in-Names-clause-steps : goal.returns-in-Names-clause-steps
returns-in-Names-clause-steps g c = let told = c.in-Names.ensures.answers in looked_here c.args.by _ _ _ _ c.mark.result c.in-Names.at None None [] told.0.1 told.0.0 c.mark.ensures

pub returns-in-Names-clause-leads : goal.returns-in-Names-clause-leads
returns-in-Names-clause-leads g c = λ coll base told_base trace placed way.
    let told = c.in-Names.ensures.answers in
    names_serves base coll c.args.by (sights c.args.store.now.journal trace) c.args.store.now.journal c.names.new.self.journal c.in-Names.at c.mark.result c.naming-reply.result c.as_slice.result.now way.0 told.0.1 told.0.0 c.mark.ensures
    (c.as_slice.ensures.value ∙ told.1 base told_base) c.naming-reply.ensures

pub returns-in-Fault-clause-leads : goal.returns-in-Fault-clause-leads
returns-in-Fault-clause-leads g c = λ coll base told_base trace placed way.
    let told = c.in-Fault.ensures.answers in
    failed_leads base coll c.args.by names tt Naming refl (sights c.args.store.now.journal trace) c.args.store.now.journal c.names.new.self.journal c.in-Fault.at c.in-Fault.before c.in-Fault.after c.failed.result way.0 told.entered told.point c.failed.ensures
