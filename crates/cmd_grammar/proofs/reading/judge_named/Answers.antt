use Rattle.json_tree.specs.View.{tree}
use Rattle.cmd_grammar.proofs.Order.{decides}
use Rattle.cmd_grammar.proofs.Judging.{place_fires}
use Rattle.cmd_grammar.proofs.reading.judge_named.Goals as goal

pub returns-in-Ok-clause-answers : goal.returns-in-Ok-clause-answers
returns-in-Ok-clause-answers c = decides _ _ _ _ c.check_command.result c.in-Ok.ensures.0 c.check_command.ensures.answers

pub returns-in-Err-clause-answers : goal.returns-in-Err-clause-answers
returns-in-Err-clause-answers c = place_fires c.args.keyspace.now c.args.place.now (c.args.name, tree c.args.command.now) c.in-Err.fault c.in-Err.ensures
