-- How a run ends.
use Rattle.std.specs.Prelude.{◌≡◌, ℕ, ◌^◌, ◌<◌, ◌≤◌, List, Bool, true, false}
use Rattle.outside_io.specs.Causes.{Rose}
use Rattle.outside_io.specs.Told.{Reading, Writing}
use Rattle.api_serve.specs.Run.{ServesInput, ServesWholeLines, ServesBefore, ServesFirst, ServesCut}
use Rattle.api_serve.specs.declared.run.RunHow.{RunHow}
use Rattle.api_serve.specs.declared.run.RunHow.TheVariants.{Done, ReadFault, WriteFault, TooLong, WrongLine, NoMemory}

-- a read failed, and these are the source's counts of faults round it
abbrev pub IsReadFault : Reading → Reading → ℕ → ℕ → Type 0
IsReadFault from to fault_before fault_after = (from.failed ≤ fault_before) × Rose fault_before fault_after × (fault_after ≡ to.failed)

-- a write failed, or nothing more was taken; these are the sink's counts of faults round it
abbrev pub IsWriteFault : Writing → Writing → ℕ → ℕ → Bool → Type 0
IsWriteFault before after fault_before fault_after false = (before.failed ≤ fault_before) × Rose fault_before fault_after × (fault_after ≡ after.failed)
IsWriteFault before after fault_before fault_after true = (before.failed ≤ fault_before) × Rose before.ended after.ended × (fault_after ≡ after.failed)

abbrev pub IsWriteEnd : Writing → Writing → RunHow → Type 0
IsWriteEnd before after (WriteFault fault_before fault_after nothing) = IsWriteFault before after fault_before fault_after nothing
IsWriteEnd before after Done = ⊥
IsWriteEnd before after (ReadFault fault_before fault_after) = ⊥
IsWriteEnd before after TooLong = ⊥
IsWriteEnd before after (WrongLine number) = ⊥
IsWriteEnd before after NoMemory = ⊥

-- how a run ends, by what its source and its sink showed before it and show after it
module _ (Served : List (List ℕ) → List ℕ → Type 0) (from to : Reading) (before after : Writing) where
  abbrev pub EndsRun : RunHow → Type 0
  EndsRun Done = ServesInput Served from to before after
  EndsRun (ReadFault fault_before fault_after) =
      IsReadFault from to fault_before fault_after × ((count : ℕ) × (count < 2 ^ 40) × ServesWholeLines Served from to before after count)
  EndsRun (WriteFault fault_before fault_after nothing) = IsWriteFault before after fault_before fault_after nothing × ServesCut Served from to before after
  EndsRun TooLong = ServesWholeLines Served from to before after (2 ^ 40)
  EndsRun (WrongLine number) = ServesBefore Served from to before after number
  EndsRun NoMemory = ServesFirst Served from to before after
