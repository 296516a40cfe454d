use Rattle.json_tree.specs.View.{tree}
use Rattle.cmd_grammar.proofs.Made.{answers_made, named_so, placed_made, ready_made}
use Rattle.cmd_grammar.proofs.reading.take_command.Goals as goal

pub made-requires : goal.made-requires
made-requires c = named_so c.args.keyspace.now c.args.place.now (tree c.args.value) c.in-Ok.name c.in-Ok.parts (tree c.taken_content.result) c.in-Ok.ensures.answers.0 c.in-Ok.ensures.answers.1 c.taken_content.ensures

pub returns-in-Ok-clause-answers : goal.returns-in-Ok-clause-answers
returns-in-Ok-clause-answers c =
    answers_made c.args.keyspace.now c.args.place.now (tree c.args.value) c.in-Ok.name c.in-Ok.parts (tree c.taken_content.result) c.in-Ok.ensures.answers.0 c.in-Ok.ensures.answers.1 c.taken_content.ensures c.made.result c.made.ensures

pub returns-in-Ok-clause-ready : goal.returns-in-Ok-clause-ready
returns-in-Ok-clause-ready c = λ w.
    ready_made c.args.keyspace.now c.args.place.now (tree c.args.value) c.in-Ok.name c.in-Ok.parts (tree c.taken_content.result) c.in-Ok.ensures.answers.0 c.in-Ok.ensures.answers.1 c.taken_content.ensures
    c.made.result (c.in-Ok.ensures.filter w) c.made.ensures

pub returns-in-Ok-clause-placed : goal.returns-in-Ok-clause-placed
returns-in-Ok-clause-placed c =
    placed_made c.args.keyspace.now c.args.place.now (tree c.args.value) c.in-Ok.name c.in-Ok.parts (tree c.taken_content.result) c.in-Ok.ensures.answers.0 c.in-Ok.ensures.answers.1 c.taken_content.ensures c.made.result c.made.ensures
