use Rattle.std.proofs.Common.{sym}
use Rattle.cmd_tasks.proofs.Rounds.{first_chosen, none_chosen, short_first}
use Rattle.cmd_tasks.proofs.one.chosen.Goals as goal

pub taken-requires : goal.taken-requires
taken-requires c = short_first c.args.rows.now c.in-Some.row.now (sym c.in-Some.ensures.value) c.requires

pub returns-in-Some : goal.returns-in-Some
returns-in-Some c = first_chosen c.args.one c.args.item c.args.rows.now c.taken.result c.in-Some.row.now (sym c.in-Some.ensures.value) c.taken.ensures

pub returns-in-None : goal.returns-in-None
returns-in-None c = none_chosen c.args.one c.args.item c.args.rows.now c.missed.result (sym c.in-None.ensures.value) c.missed.ensures
