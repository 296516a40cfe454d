use Rattle.std.proofs.Common.{◌∙◌, ap, rules}
use Rattle.cmd_grammar.specs.Commands.{command_tree}
use Rattle.cmd_tasks.specs.Ids.{drawn, stream_of_ids}
use Rattle.cmd_tasks.specs.Jobs.{draws}
use Rattle.cmd_tasks.specs.Session.{Exchange, asks_for}
use Rattle.cmd_tasks.specs.Stands.{answered_by}
use Rattle.api_serve.proofs.Makes.{performed}
use Rattle.api_serve.specs.declared.one.Answered.{Answered}
use Rattle.api_serve.proofs.one.perform.Goals as goal

pub serve-reply-requires-clause-begun : goal.serve-reply-requires-clause-begun
serve-reply-requires-clause-begun g c = (c.new-task.ensures.empty, c.new-task.ensures.stands c.args.store.now.start c.args.store.now.journal)

pub returns-clause-performs : goal.returns-clause-performs
returns-clause-performs g c =
    let asked = c.new-task.ensures.asked in
    let answered : Answered = record { reply = c.serve-reply.result.reply; trace = c.serve-reply.result.trace } in record {
      moment_is = search rules;
      session_is = performed c.args.store.now.start _ c.args.session c.args.store.now.journal _ (asks_for c.args.coll (command_tree c.args.command)) (drawn (draws (command_tree c.args.command)) (stream_of_ids c.args.ids.now))
          (answered_by c.new-task.result c.serve-reply.result) answered asked.0
          (λ i. record {
            asking = asks_for (asked.1 i) (command_tree (asked.3 i));
            moment = c.serve-reply.result.trace.moment;
            ids = drawn (draws (command_tree (asked.3 i))) (stream_of_ids (asked.4 i));
            trace = c.serve-reply.result.trace.items.items;
            reply = c.serve-reply.result.reply;
          })
          c.serve-reply.ensures.served;
    }
