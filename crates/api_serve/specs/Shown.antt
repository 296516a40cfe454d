-- What a store, traces and a clock show of a session. Only the crate's private clauses cite it.
use Rattle.std.specs.Prelude.{ℕ, ℤ, List, Option}
use Rattle.store_core.specs.State.{State}
use Rattle.rand_core.specs.Stream.{Stream}
use Rattle.api_serve.specs.Session.{Service, Serving, Stage}
use Rattle.store_core.specs.declared.entry.Entry.{Entry}
use Rattle.cmd_tasks.specs.declared.trace.Trace.{Trace}

abbrev pub service_of : List ℕ → Option State → ℕ → Service
service_of keyspace start number = record { keyspace = keyspace; start = start; number = number }

abbrev pub serving_of : List Entry → ℕ → List Trace → Option (List ℤ) → Serving
serving_of journal failed traces times = record { journal = journal; failed = failed; traces = traces; times = times }

abbrev pub stage_of : List Entry → ℕ → List Trace → Option (List ℤ) → Stream → Stage
stage_of journal failed traces times ids = record { journal = journal; failed = failed; traces = traces; times = times; ids = ids }

-- what is seen of a stage
abbrev pub seen : Stage → Serving
seen stage = record { journal = stage.journal; failed = stage.failed; traces = stage.traces; times = stage.times }
