use Rattle.cmd_tasks.proofs.Goings.{first_refused}
use Rattle.cmd_tasks.proofs.taking.go_on.Goals as goal

pub returns-in-Refused-clause-told : goal.returns-in-Refused-clause-told
returns-in-Refused-clause-told c = λ st stands first. c.refused.ensures.told _ (first_refused c.args.many c.in-Refused.stand c.in-Refused.fault _ (c.in-Refused.ensures.told st stands first))

pub returns-in-Refused-clause-ready : goal.returns-in-Refused-clause-ready
returns-in-Refused-clause-ready c = c.refused.ensures.ready c.args.stand
