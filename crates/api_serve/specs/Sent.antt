-- What a run does with the bytes that wait and writes of it. Only the crate's private clauses cite it.
use Rattle.std.specs.Prelude.{◌≡◌, ◌⊎◌, ℕ, ◌+◌, ◌<◌, List, [], ◌++◌, length, take, IsTrue}
use Rattle.std.specs.List.{list_all}
use Rattle.outside_io.specs.Told.{Writing, Takes}
use Rattle.api_serve.specs.Separated.{is_free_of}
use Rattle.api_serve.specs.Lines.{Splits, BeginsWith, ended_lines, last_line}
use Rattle.api_serve.specs.Request.{IsRightLine}
use Rattle.api_serve.specs.Session.{Service, Stage}
use Rattle.api_serve.specs.Run.{Serves}
use Rattle.api_serve.specs.Piece.{BeginsWrong}
use Rattle.api_serve.specs.Ends.{IsWriteFault}
use Rattle.api_serve.specs.declared.run.Run.{Run}
use Rattle.api_serve.specs.declared.run.RunHow.{RunHow}
use Rattle.api_serve.specs.declared.run.RunHow.TheVariants.{Done, ReadFault, WriteFault, TooLong, WrongLine, NoMemory}

module _ (service : Service) (stage : Stage) (old : Run) (later : Stage) (before after : Writing) where
  -- the lines that ended are served, and their replies written
  pub record ServesPiece (new : Run) : Type 0 where
    pub lines : List (List ℕ)
    pub output : List ℕ
    pub split : Splits old.lines lines new.lines
    pub served : Serves service stage lines output later
    pub written : Takes before output after
    pub sent : new.out.items ≡ []
    pub counted : new.count ≡ old.count + length lines

  -- the lines before one that isn't of its form are served, and their replies written
  pub record AnswersBefore (number : ℕ) : Type 0 where
    pub lines : List (List ℕ)
    pub output : List ℕ
    pub rest : List ℕ
    pub text : old.lines ≡ ended_lines lines ++ rest
    pub each : IsTrue (list_all (is_free_of 10) lines)
    pub wrong : BeginsWrong rest
    pub number_is : number ≡ old.count + length lines + 1
    pub served : Serves service stage lines output later
    pub written : Takes before output after

  -- some first lines are served, and a front of their replies written
  pub record AnswersFirst : Type 0 where
    pub lines : List (List ℕ)
    pub output : List ℕ
    pub count : ℕ
    pub begins : BeginsWith old.lines lines
    pub served : Serves service stage lines output later
    pub written : Takes before (take count output) after

  -- and that isn't all of them
  pub record AnswersCut : Type 0 where
    pub first : AnswersFirst
    pub cut : first.count < length first.output

  -- why a piece ended the run, and what was written of it
  abbrev pub EndsPiece : RunHow → Type 0
  EndsPiece (WrongLine number) = AnswersBefore number
  EndsPiece (WriteFault fault_before fault_after nothing) = IsWriteFault before after fault_before fault_after nothing × AnswersCut
  EndsPiece NoMemory = AnswersFirst
  EndsPiece Done = ⊥
  EndsPiece (ReadFault fault_before fault_after) = ⊥
  EndsPiece TooLong = ⊥

  -- what waits at the input's end is served, and its reply written
  pub record AnswersLast : Type 0 where
    pub output : List ℕ
    pub served : Serves service stage (last_line old.lines) output later
    pub written : Takes before output after

  -- or a front of its reply
  pub record AnswersLastCut : Type 0 where
    pub output : List ℕ
    pub count : ℕ
    pub served : Serves service stage (last_line old.lines) output later
    pub cut : count < length output
    pub written : Takes before (take count output) after

  -- it isn't of a line's form, and nothing is served or written
  pub record RefusesLast (number : ℕ) : Type 0 where
    pub wrong : IsRightLine old.lines → ⊥
    pub number_is : number ≡ old.count + 1
    pub same : later ≡ stage
    pub written : Takes before [] after

  -- memory ran out before it was served, or before its reply was printed
  pub record AnswersNone : Type 0 where
    pub served : (later ≡ stage) ⊎ ((output : List ℕ) × Serves service stage (last_line old.lines) output later)
    pub written : Takes before [] after

  -- how the run ends with the input
  abbrev pub FinishesAs : RunHow → Type 0
  FinishesAs Done = AnswersLast
  FinishesAs (WriteFault fault_before fault_after nothing) = IsWriteFault before after fault_before fault_after nothing × AnswersLastCut
  FinishesAs (WrongLine number) = RefusesLast number
  FinishesAs NoMemory = AnswersNone
  FinishesAs (ReadFault fault_before fault_after) = ⊥
  FinishesAs TooLong = ⊥
