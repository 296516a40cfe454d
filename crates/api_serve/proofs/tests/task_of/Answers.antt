use Rattle.cmd_grammar.specs.Commands.{command_tree}
use Rattle.api_serve.proofs.Contests.{targeted}
use Rattle.api_serve.proofs.tests.task_of.Goals as goal

pub new-requires-clause-targeted : goal.new-requires-clause-targeted
new-requires-clause-targeted c = targeted c.args.coll (command_tree c.args.command)
