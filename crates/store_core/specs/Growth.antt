-- What a call may append to the journal.
use Rattle.std.specs.Prelude.{◌≡◌, ℕ, ◌≤◌, List, ◌++◌, length, Option, Some, None}
use Rattle.store_core.specs.Counts.{AllBy}
use Rattle.store_core.specs.declared.entry.Entry.{Entry}

-- nothing, or one entry by the session of the call
abbrev pub Grows : Option ℕ → List Entry → List Entry → Type 0
Grows None old new = new ≡ old
Grows (Some by) old new = (more : List Entry) × (new ≡ old ++ more) × AllBy by more × (length more ≤ 1)
