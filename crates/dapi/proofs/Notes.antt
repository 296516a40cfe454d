-- The note of a status.
use Rattle.std.proofs.Common.{◌≡◌, refl}
use Rattle.dapi.specs.Note.{status_of, note_of, note_at}
use Rattle.api_serve.specs.declared.run.RunHow.{RunHow}
use Rattle.api_serve.specs.declared.run.RunHow.TheVariants.{Done, ReadFault, WriteFault, TooLong, WrongLine, NoMemory}

-- every status but that of a wrong line has one note
pub noted_by : (how : RunHow) → (status_of how ≡ 6 → ⊥) → note_of how ≡ note_at (status_of how)
noted_by Done none = refl
noted_by (ReadFault before after) none = refl
noted_by (WriteFault before after nothing) none = refl
noted_by TooLong none = refl
noted_by (WrongLine line) none = absurd (none refl)
noted_by NoMemory none = refl
