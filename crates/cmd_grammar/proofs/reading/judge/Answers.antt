use Rattle.std.proofs.Common.{sym, ◌∙◌}
use Rattle.json_tree.specs.View.{tree}
use Rattle.reply_env.specs.Messages.{no_command}
use Rattle.cmd_grammar.proofs.Judging.{unnamed, made, is_named, named_fires, inner_writable}
use Rattle.cmd_grammar.proofs.reading.judge.Goals as goal

pub returns-in-None-clause-answers : goal.returns-in-None-clause-answers
returns-in-None-clause-answers c =
    unnamed c.args.keyspace.now c.args.place.now (tree c.args.value.now) c.refuse.result c.in-None.ensures (made c.no_command.result no_command c.refuse.result c.no_command.ensures c.refuse.ensures)

pub returns-in-Ok-clause-answers : goal.returns-in-Ok-clause-answers
returns-in-Ok-clause-answers c = (
  sym (is_named c.args.keyspace.now c.args.place.now (tree c.args.value.now) (c.in-Some.name, tree c.in-Some.command.now) c.in-Some.ensures) ∙ c.in-Ok.ensures.answers.0,
  record { inner = tree c.in-Some.command.now; is_at = sym c.in-Some.ensures; are_parts = c.in-Ok.ensures.answers.1 },
)

pub returns-in-Err-clause-answers : goal.returns-in-Err-clause-answers
returns-in-Err-clause-answers c = named_fires c.args.keyspace.now c.args.place.now (tree c.args.value.now) (c.in-Some.name, tree c.in-Some.command.now) c.in-Err.fault c.in-Some.ensures c.in-Err.ensures.answers

pub returns-in-Ok-clause-filter : goal.returns-in-Ok-clause-filter
returns-in-Ok-clause-filter c = λ w. c.in-Ok.ensures.filter (inner_writable c.args.place.now.collection (tree c.args.value.now) (c.in-Some.name, tree c.in-Some.command.now) c.in-Some.ensures w)
