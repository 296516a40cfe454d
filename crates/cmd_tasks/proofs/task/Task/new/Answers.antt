use Rattle.std.proofs.Common.{rules, sym, subst}
use Rattle.cmd_grammar.specs.Commands.{command_tree}
use Rattle.cmd_grammar.specs.declared.command.Command.{Command}
use Rattle.cmd_tasks.specs.Stands.{IsTargeted}
use Rattle.cmd_tasks.proofs.Standing.{begun_stands}
use Rattle.cmd_tasks.proofs.task.Task.new.Goals as goal

pub returns-clause-stands : goal.returns-clause-stands
returns-clause-stands c = λ start history.
    begun_stands start history _ (search rules) (subst (λ (z : Command). IsTargeted c.args.coll (command_tree z)) (sym c.of-asked.ensures) c.requires.targeted) (search rules)
