-- What a run says of its end: an exit status, and a line on the notes.
use Rattle.std.specs.Prelude.{◌⊎◌, ℕ, List, [], ◌∷◌, ◌++◌, codes, decimal, take, Bool, ◌==◌, if◌then◌else◌}
use Rattle.std.specs.List.{list_any}
use Rattle.outside_io.specs.Told.{Writing, Takes, IsHindered}
use Rattle.api_serve.specs.declared.run.RunHow.{RunHow}
use Rattle.api_serve.specs.declared.run.RunHow.TheVariants as ends
use Rattle.store_core.specs.declared.open.OpenFault.{OpenFault}
use Rattle.store_core.specs.declared.open.OpenFault.TheVariants as opens
use Rattle.dapi.specs.declared.words.WordFault.{WordFault}
use Rattle.dapi.specs.declared.words.WordFault.TheVariants as faults

abbrev pub status_of : RunHow → ℕ
status_of ends.Done = 0
status_of (ends.ReadFault before after) = 2
status_of (ends.WriteFault before after nothing) = 3
status_of ends.TooLong = 5
status_of (ends.WrongLine line) = 6
status_of ends.NoMemory = 9

abbrev pub usage_note : List ℕ
usage_note = codes "usage: dapi run|mix|gen N SEED|check|serve --listen=A [options]\n"

abbrev pub line_note : ℕ → List ℕ
line_note line = codes "line " ++ decimal line ++ codes " is not a request\n"

abbrev pub note_of : RunHow → List ℕ
note_of ends.Done = []
note_of (ends.ReadFault before after) = codes "read fault\n"
note_of (ends.WriteFault before after nothing) = codes "write fault\n"
note_of ends.TooLong = codes "input too long\n"
note_of (ends.WrongLine line) = line_note line
note_of ends.NoMemory = codes "no memory\n"

-- where the words couldn't be used
abbrev pub word_status : WordFault → ℕ
word_status faults.Usage = 1
word_status faults.NoMemory = 9

abbrev pub word_note : WordFault → List ℕ
word_note faults.Usage = usage_note
word_note faults.NoMemory = codes "no memory\n"

-- where the store couldn't be opened
module _ {K : Type 0} where
  abbrev pub open_status : OpenFault K → ℕ
  open_status (opens.KeeperFault keeper before after) = 4
  open_status (opens.TooMany keeper) = 4
  open_status (opens.NoMemory keeper) = 9

  abbrev pub open_note : OpenFault K → List ℕ
  open_note (opens.KeeperFault keeper before after) = codes "keeper fault\n"
  open_note (opens.TooMany keeper) = codes "too many collections\n"
  open_note (opens.NoMemory keeper) = codes "no memory\n"

-- the note of each status but that of a wrong line, whose note has the line's number, and of an unopened store, which has two
abbrev pub note_at : ℕ → List ℕ
note_at status =
    if status == 1 then usage_note
    else (if status == 2 then codes "read fault\n"
    else (if status == 3 then codes "write fault\n"
    else (if status == 5 then codes "input too long\n"
    else (if status == 9 then codes "no memory\n" else []))))

abbrev pub is_status : ℕ → Bool
is_status status = list_any (λ s. s == status) (0 ∷ 1 ∷ 2 ∷ 3 ∷ 4 ∷ 5 ∷ 6 ∷ 9 ∷ [])

-- the whole note was taken; or a front of it, and then a write was hindered
abbrev pub IsNoted : Writing → Writing → List ℕ → Type 0
IsNoted before after note = Takes before note after ⊎ (IsHindered before after × ((count : ℕ) × Takes before (take count note) after))
