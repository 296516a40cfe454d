use Rattle.std.proofs.Common.{Err, [], refl, subst, rules}
use Rattle.cmd_grammar.specs.Requests.{IsReadAs}
use Rattle.cmd_grammar.specs.declared.fault.CommandFault.{CommandFault}
use Rattle.cmd_tasks.specs.Session.{asks_for, is_refused, is_unread}
use Rattle.cmd_grammar.specs.Commands.{command_tree}
use Rattle.reply_env.specs.declared.reply.ErrorItem.{ErrorItem}
use Rattle.api_serve.specs.One.{exchange_of}
use Rattle.api_serve.proofs.Makes.{targeted}
use Rattle.api_serve.proofs.one.answer.Goals as goal

pub returns-in-Ok-target_of-clause-answers : goal.returns-in-Ok-target_of-clause-answers
returns-in-Ok-target_of-clause-answers g c = record {
  asking = asks_for c.in-Ok-target_of.coll (command_tree c.in-Ok.command);
  asked = (c.in-Ok.ensures.answers, c.in-Ok-target_of.ensures);
  moment_is = search rules;
  session_is = c.perform.ensures.performs.session_is;
  left_is = c.perform.ensures.drawn;
}

pub returns-in-Err-clause-answers : goal.returns-in-Err-clause-answers
returns-in-Err-clause-answers g c = let u = c.unread.ensures in record {
  asking = is_unread;
  asked = tt;
  moment_is = search rules;
  session_is = λ base told earlier was. c.a_request_begins.ensures base c.args.store.now.journal c.args.session earlier (exchange_of is_unread [] c.unread.result) u.trace (u.trace, u.reply) was;
  left_is = refl;
}

pub returns-in-Err-NoMemory-clause-answers : goal.returns-in-Err-NoMemory-clause-answers
returns-in-Err-NoMemory-clause-answers g c = let u = c.unread-in-Err-NoMemory.ensures in record {
  asking = is_unread;
  asked = tt;
  moment_is = search rules;
  session_is = λ base told earlier was. c.a_request_begins.ensures base c.args.store.now.journal c.args.session earlier (exchange_of is_unread [] c.unread-in-Err-NoMemory.result) u.trace (u.trace, u.reply) was;
  left_is = refl;
}

pub returns-in-Err-Refused-clause-answers : goal.returns-in-Err-Refused-clause-answers
returns-in-Err-Refused-clause-answers g c = let u = c.refused.ensures in let error : ErrorItem = record { code = c.in-Err-Refused.code; message = c.in-Err-Refused.message } in record {
  asking = is_refused error;
  asked = subst (λ (f : CommandFault). IsReadAs c.args.keyspace.now c.args.request.now (Err f)) c.in-Err-Refused.field-0-is c.in-Err-Refused.ensures.answers;
  moment_is = search rules;
  session_is = λ base told earlier was. c.a_request_begins.ensures base c.args.store.now.journal c.args.session earlier (exchange_of (is_refused error) [] c.refused.result) u.trace (u.trace, u.reply) was;
  left_is = refl;
}

pub perform-requires-clause-targeted : goal.perform-requires-clause-targeted
perform-requires-clause-targeted g c = targeted c.args.keyspace.now c.args.request.now.place (command_tree c.in-Ok.command) c.in-Ok-target_of.coll c.in-Ok.ensures.placed c.in-Ok-target_of.ensures
