-- How a run on an open store ended. Only the crate's private clauses cite it.
use Rattle.std.specs.Prelude.{◌≡◌, ℕ, ℤ, List, [], Option}
use Rattle.std.specs.Option.{option_map}
use Rattle.outside_io.specs.Told.{Reading, Writing}
use Rattle.col_keeper.specs.Tables.{Tables}
use Rattle.store_core.specs.State.{tables_of}
use Rattle.store_core.specs.Journal.{replay}
use Rattle.store_core.specs.Store.{Stored}
use Rattle.store_core.specs.declared.entry.Entry.{Entry}
use Rattle.cmd_tasks.specs.declared.trace.Trace.{Trace}
use Rattle.api_serve.specs.Run.{ServesLines}
use Rattle.api_serve.specs.Ends.{EndsRun}
use Rattle.api_serve.specs.declared.run.RunHow.{RunHow}

-- a session was opened and served its lines, the run ended so, and the keeper that is handed back has the tables that the history leaves
pub record EndsStore {K : Type 0} (tables : K → Option Tables) (failed : K → ℕ) (keyspace seed : List ℕ) (store : Stored K) (times : Option (List ℤ)) (kept : K) (from to : Reading) (before after : Writing) (how : RunHow) : Type 0 where
  pub history : List Entry
  pub traces : List Trace
  pub later : Option (List ℤ)
  pub ended : EndsRun (ServesLines keyspace seed store.start store.first (record { journal = store.journal; failed = failed store.keeper; traces = []; times = times }) (record { journal = history; failed = failed kept; traces = traces; times = later })) from to before after how
  pub tables_are : tables kept ≡ option_map (λ s. tables_of (replay s history)) store.start
