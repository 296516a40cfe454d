use Rattle.std.proofs.Common.{◌≡◌, Ok, rules}
use Rattle.update_ops.specs.Upsert.{replaced}
use Rattle.cmd_tasks.proofs.Written.{replaced_fits}
use Rattle.cmd_tasks.proofs.upserts.replaced_by.Goals as goal

pub returns-else-same-clause-fits : goal.returns-else-same-clause-fits
returns-else-same-clause-fits c =
    let makes : replaced c.args.replacement.now c.args.doc.now ≡ Ok c.in-Ok.new = search rules in
    replaced_fits c.same_decides.ensures c.args.replacement.now c.args.doc.now c.in-Ok.new c.value.ensures.replacement.object makes
