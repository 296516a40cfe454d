-- What a session adds to a history.
use Rattle.std.specs.Prelude.{◌≡◌, ℕ, ◌≤◌, List, ◌++◌}
use Rattle.store_core.specs.Counts.{AllBy}
use Rattle.cmd_tasks.specs.Session.{AreCounted}
use Rattle.store_core.specs.declared.entry.Entry.{Entry}

-- the history is longer by entries of this session, and the numbers of its failed calls lie between the keeper's counts
pub record Grown (session : ℕ) (journal : List Entry) (failed : ℕ) (longer : List Entry) (failed_then : ℕ) : Type 0 where
  pub more : List Entry
  pub journal_is : longer ≡ journal ++ more
  pub alone : AllBy session more
  pub counted : AreCounted failed failed_then more
  pub grows : failed ≤ failed_then
