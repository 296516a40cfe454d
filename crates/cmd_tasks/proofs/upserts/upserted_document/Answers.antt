use Rattle.filter_tree.specs.View.{filter_tree}
use Rattle.cmd_tasks.specs.Many.{making_of}
use Rattle.cmd_tasks.proofs.Written.{upserted_keeps}
use Rattle.cmd_tasks.proofs.upserts.upserted_document.Goals as goal

pub returns-in-Ok-clause-limits : goal.returns-in-Ok-clause-limits
returns-in-Ok-clause-limits c =
    upserted_keeps (filter_tree c.args.filter.now) (making_of c.args.making.now) c.args.id.now c.in-Ok.doc c.in-Ok.ensures

pub returns-in-Ok-clause-short : goal.returns-in-Ok-clause-short
returns-in-Ok-clause-short c =
    c.limits_bound_ids.ensures c.in-Ok.doc c.value.ensures.document
    (upserted_keeps (filter_tree c.args.filter.now) (making_of c.args.making.now) c.args.id.now c.in-Ok.doc c.in-Ok.ensures)
