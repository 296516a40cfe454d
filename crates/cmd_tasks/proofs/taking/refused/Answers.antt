use Rattle.cmd_tasks.proofs.Goings.{refused_ends}
use Rattle.cmd_tasks.proofs.taking.refused.Goals as goal

pub returns-clause-told : goal.returns-clause-told
returns-clause-told c = refused_ends c.args.many c.args.item c.args.stand c.args.fault c.declined.result c.told_after-reply.result c.declined.ensures.cut c.declined.ensures.told c.told_after-reply.ensures.refuses c.told_after-reply.ensures.cut
