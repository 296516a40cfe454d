use Rattle.std.proofs.Common.{◌<◌, length}
use Rattle.store_core.specs.Store.{IsLawful, SameBase}
use Rattle.store_core.specs.Counts.{opened_in}
use Rattle.cmd_tasks.specs.Ids.{stream_of_ids}
use Rattle.api_serve.specs.Shown.{service_of, stage_of}
use Rattle.api_serve.proofs.Waits.{IsPartway}
use Rattle.api_serve.proofs.run.serve_lines.Given as goal

abbrev pub invariant-lines : goal.invariant-lines
invariant-lines g l = record {
  way : IsPartway (service_of l.keyspace l.fn.store.start l.session)
      (stage_of l.fn.store.journal (g.K.Keeper.failed l.fn.store.keeper) l.fn.run.traces.items (g.C.Clock.times l.fn.clock) (stream_of_ids l.fn.run.ids)) l.fn.run
      (stage_of l.store.journal (g.K.Keeper.failed l.store.keeper) l.run.traces.items (g.C.Clock.times l.clock) (stream_of_ids l.run.ids)) l.run;
  base : SameBase l.fn.store l.store;
  known : l.session < opened_in l.store.journal;
  lawful : IsLawful l.store;
}

abbrev pub decreases-lines : goal.decreases-lines
decreases-lines g l = length l.run.lines
