use Rattle.std.proofs.Common.{None, [], refl}
use Rattle.reply_env.specs.Messages as errors
use Rattle.cmd_tasks.specs.Served.{sights}
use Rattle.cmd_tasks.specs.Jobs.{creates}
use Rattle.cmd_tasks.specs.declared.work.State.TheVariants.{Creating}
use Rattle.cmd_tasks.proofs.Glances.{looked_here}
use Rattle.cmd_tasks.proofs.Requests.{failed_leads}
use Rattle.cmd_tasks.proofs.Shapes.{many_serves}
use Rattle.cmd_tasks.proofs.collections.create.Goals as goal

pub returns-in-Same-clause-steps : goal.returns-in-Same-clause-steps
returns-in-Same-clause-steps g c = let told = c.in-Same.ensures.answers in looked_here c.args.by _ _ _ _ c.mark.result c.in-Same.at None None [] told.0.1 told.0.0 c.mark.ensures

pub returns-in-TooMany-clause-steps : goal.returns-in-TooMany-clause-steps
returns-in-TooMany-clause-steps g c = let told = c.in-TooMany.ensures.answers in looked_here c.args.by _ _ _ _ c.mark-in-TooMany.result c.in-TooMany.at None None [] told.0.1 told.0.0 c.mark-in-TooMany.ensures

pub returns-in-TooMany-clause-leads : goal.returns-in-TooMany-clause-leads
returns-in-TooMany-clause-leads g c = λ base told_base trace placed way.
    let told = c.in-TooMany.ensures.answers in
    many_serves base c.args.coll.now c.args.by (sights c.args.store.now.journal trace) c.args.store.now.journal c.create.new.self.journal c.in-TooMany.at c.mark-in-TooMany.result c.refuse.result way.0 told.0.1 told.0.0 c.mark-in-TooMany.ensures
    (told.1 base told_base).0 (told.1 base told_base).1 (c.refuse.ensures errors.too_many_collections c.too_many_collections.ensures)

pub returns-in-Fault-clause-leads : goal.returns-in-Fault-clause-leads
returns-in-Fault-clause-leads g c = λ base told_base trace placed way.
    let told = c.in-Fault.ensures.answers in
    failed_leads base c.args.coll.now c.args.by creates tt Creating refl (sights c.args.store.now.journal trace) c.args.store.now.journal c.create.new.self.journal c.in-Fault.at c.in-Fault.before c.in-Fault.after c.failed.result way.0 told.entered told.point c.failed.ensures
