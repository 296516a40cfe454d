use Rattle.std.proofs.Common.{ap}
use Rattle.cmd_tasks.specs.Ids.{stream_of_ids}
use Rattle.api_serve.specs.Shown.{service_of}
use Rattle.api_serve.proofs.Opened.{ends_begun, only_one}
use Rattle.api_serve.proofs.serve.serve_session.Goals as goal

pub returns-clause-ended : goal.returns-clause-ended
returns-clause-ended g c = (
  c.serve_pieces-how.new.run.traces.items,
  stream_of_ids c.serve_pieces-how.new.run.ids,
  only_one (λ list. list.items) c.args.lists.items c.push_reserved.new.self.items c.serve_pieces-how.new.run.traces c.requires.lists.0 c.push_reserved.ensures.items,
  ends_begun (service_of c.args.keyspace.now c.args.store.now.start c.args.session) c.args.store.now.journal _ c.start-run.result.traces.items _ (stream_of_ids c.start-run.result.ids) (stream_of_ids c.args.ids) _ _ _ _ _ c.serve_pieces-how.result c.start-run.ensures.4 (ap stream_of_ids c.start-run.ensures.3) c.serve_pieces-how.ensures.ended,
)
