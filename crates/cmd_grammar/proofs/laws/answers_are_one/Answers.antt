use Rattle.cmd_grammar.specs.Refused.{refused, page_at}
use Rattle.cmd_grammar.proofs.OneAnswer.{one_command, one_refusal, not_refused}
use Rattle.cmd_grammar.proofs.laws.answers_are_one.Goals as goal

pub returns-clause-command : goal.returns-clause-command
returns-clause-command c = one_command c.page_states_are_one.ensures

pub returns-clause-refusal : goal.returns-clause-refusal
returns-clause-refusal c = λ keyspace place value. one_refusal (refused keyspace place value) (page_at place value)

pub returns-clause-either : goal.returns-clause-either
returns-clause-either c = not_refused
