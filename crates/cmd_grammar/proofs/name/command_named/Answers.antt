use Rattle.cmd_grammar.proofs.Table.{command-at, no_command-at}
use Rattle.cmd_grammar.proofs.name.command_named.Goals as goal

pub returns-in-Some : goal.returns-in-Some
returns-in-Some c = command-at c.in-Some.row c.args.name.now c.in_row.result c.in_row.ensures (rw c.commands.ensures at c.in-Some.ensures.found)

pub returns-in-None : goal.returns-in-None
returns-in-None c = no_command-at c.args.name.now (rw c.commands.ensures at c.in-None.ensures.found)
