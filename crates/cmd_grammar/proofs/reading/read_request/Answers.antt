use Rattle.std.proofs.Common.{ℕ, List, subst}
use Rattle.json_tree.specs.View.{tree}
use Rattle.json_text.specs.Grammar.{Reads}
use Rattle.json_text.specs.Fault.{IsFault}
use Rattle.cmd_grammar.proofs.Bodies.{read_as, unread_as}
use Rattle.cmd_grammar.proofs.reading.read_request.Goals as goal

pub returns-in-Ok-clause-answers : goal.returns-in-Ok-clause-answers
returns-in-Ok-clause-answers c =
    read_as c.args.keyspace.now c.args.request.now (tree c.in-Ok.value) c.take_command.result (subst (λ (b : List ℕ). Reads b (tree c.in-Ok.value)) c.as_slice.ensures.value c.in-Ok.ensures.reads) c.take_command.ensures.answers

pub returns-in-Ok-clause-ready : goal.returns-in-Ok-clause-ready
returns-in-Ok-clause-ready c = c.take_command.ensures.ready c.in-Ok.ensures.writable

pub returns-in-Ok-clause-placed : goal.returns-in-Ok-clause-placed
returns-in-Ok-clause-placed c = c.take_command.ensures.placed

pub returns-in-Err-clause-answers : goal.returns-in-Err-clause-answers
returns-in-Err-clause-answers c =
    unread_as c.args.keyspace.now c.args.request.now c.in-Err.fault c.refuse_unread.result (subst (λ (b : List ℕ). IsFault b c.in-Err.fault) c.as_slice.ensures.value c.in-Err.ensures.refuses) c.refuse_unread.ensures.told c.refuse_unread.ensures.wanting
