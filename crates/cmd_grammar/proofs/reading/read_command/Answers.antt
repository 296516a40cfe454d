use Rattle.json_tree.specs.View.{tree}
use Rattle.cmd_grammar.proofs.Made.{answers_made, named_so, placed_made, ready_made}
use Rattle.cmd_grammar.proofs.reading.read_command.Goals as goal

pub made-requires : goal.made-requires
made-requires c = named_so c.args.keyspace.now c.args.place.now (tree c.args.value.now) c.in-Ok.name c.in-Ok.parts (tree c.in-Ok-copied_content.content) c.in-Ok.ensures.answers.0 c.in-Ok.ensures.answers.1 c.in-Ok-copied_content.ensures.1

pub returns-in-Ok-copied_content-clause-answers : goal.returns-in-Ok-copied_content-clause-answers
returns-in-Ok-copied_content-clause-answers c =
    answers_made c.args.keyspace.now c.args.place.now (tree c.args.value.now) c.in-Ok.name c.in-Ok.parts (tree c.in-Ok-copied_content.content) c.in-Ok.ensures.answers.0 c.in-Ok.ensures.answers.1 c.in-Ok-copied_content.ensures.1
    c.made.result c.made.ensures

pub returns-in-Ok-copied_content-clause-ready : goal.returns-in-Ok-copied_content-clause-ready
returns-in-Ok-copied_content-clause-ready c = λ w.
    ready_made c.args.keyspace.now c.args.place.now (tree c.args.value.now) c.in-Ok.name c.in-Ok.parts (tree c.in-Ok-copied_content.content) c.in-Ok.ensures.answers.0 c.in-Ok.ensures.answers.1 c.in-Ok-copied_content.ensures.1
    c.made.result (c.in-Ok.ensures.filter w) c.made.ensures

pub returns-in-Ok-copied_content-clause-placed : goal.returns-in-Ok-copied_content-clause-placed
returns-in-Ok-copied_content-clause-placed c =
    placed_made c.args.keyspace.now c.args.place.now (tree c.args.value.now) c.in-Ok.name c.in-Ok.parts (tree c.in-Ok-copied_content.content) c.in-Ok.ensures.answers.0 c.in-Ok.ensures.answers.1 c.in-Ok-copied_content.ensures.1
    c.made.result c.made.ensures
