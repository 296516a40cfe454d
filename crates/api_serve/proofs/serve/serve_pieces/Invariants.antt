use Rattle.std.proofs.Common.{◌≤◌, ◌<◌}
use Rattle.outside_io.specs.Told.{CountsGrow}
use Rattle.store_core.specs.Store.{IsLawful, SameBase}
use Rattle.store_core.specs.Counts.{opened_in}
use Rattle.cmd_tasks.specs.Ids.{stream_of_ids}
use Rattle.api_serve.specs.Shown.{service_of, stage_of}
use Rattle.api_serve.proofs.Whole.{IsAt}
use Rattle.api_serve.proofs.serve.serve_pieces.Given as goal

abbrev pub invariant-pieces : goal.invariant-pieces
invariant-pieces g l = record {
  at : IsAt (service_of l.keyspace l.fn.store.start l.session)
      (stage_of l.fn.store.journal (g.K.Keeper.failed l.fn.store.keeper) l.fn.run.traces.items (g.C.Clock.times l.fn.clock) (stream_of_ids l.fn.run.ids))
      (g.S.Source.reading l.fn.source) (g.S.Source.reading l.source) (g.W.Sink.writing l.fn.sink) (g.W.Sink.writing l.sink)
      (stage_of l.store.journal (g.K.Keeper.failed l.store.keeper) l.run.traces.items (g.C.Clock.times l.clock) (stream_of_ids l.run.ids)) l.run l.unread;
  reads_grow : (g.S.Source.reading l.fn.source).failed ≤ (g.S.Source.reading l.source).failed;
  writes_grow : CountsGrow (g.W.Sink.writing l.fn.sink) (g.W.Sink.writing l.sink);
  base : SameBase l.fn.store l.store;
  known : l.session < opened_in l.store.journal;
  lawful : IsLawful l.store;
}

abbrev pub decreases-pieces : goal.decreases-pieces
decreases-pieces g l = l.unread
