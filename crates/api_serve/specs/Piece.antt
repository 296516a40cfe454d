-- What a run does with the bytes that wait. Only the crate's private clauses cite it.
use Rattle.std.specs.Prelude.{◌≡◌, ℕ, ◌+◌, List, ◌∷◌, ◌++◌, length, take, IsTrue, ◌⊎◌}
use Rattle.std.specs.List.{list_all}
use Rattle.api_serve.specs.Separated.{is_free_of}
use Rattle.api_serve.specs.Lines.{Splits, BeginsWith, ended_lines, last_line}
use Rattle.api_serve.specs.Request.{IsRightLine, IsHopeless}
use Rattle.api_serve.specs.Session.{Service, Stage}
use Rattle.api_serve.specs.Run.{Serves}
use Rattle.api_serve.specs.declared.run.Run.{Run}
use Rattle.api_serve.specs.declared.run.Stop.{Stop}
use Rattle.api_serve.specs.declared.run.Stop.TheVariants.{Wrong, NoMemory}

-- the run with a piece of the input more
abbrev pub fed : Run → List ℕ → Run
fed run piece = record run { lines = run.lines ++ piece }

-- whatever stands behind these bytes, the line that they begin with isn't of its form
abbrev pub BeginsWrong : List ℕ → Type 0
BeginsWrong bytes =
    ((line : List ℕ) × (rest : List ℕ) × (bytes ≡ line ++ 10 ∷ rest) × IsTrue (is_free_of 10 line) × (IsRightLine line → ⊥))
    ⊎ (IsTrue (is_free_of 10 bytes) × IsHopeless bytes)

module _ (service : Service) (stage : Stage) (old : Run) (later : Stage) (new : Run) where
  -- the lines that ended were served, and the rest waits
  pub record TakesLines : Type 0 where
    pub lines : List (List ℕ)
    pub output : List ℕ
    pub split : Splits old.lines lines new.lines
    pub served : Serves service stage lines output later
    pub written : new.out.items ≡ old.out.items ++ output
    pub counted : new.count ≡ old.count + length lines

  -- some first lines were served, and a front of their replies printed
  pub record TakesFirst : Type 0 where
    pub lines : List (List ℕ)
    pub output : List ℕ
    pub printed : ℕ
    pub begins : BeginsWith old.lines lines
    pub served : Serves service stage lines output later
    pub written : new.out.items ≡ old.out.items ++ take printed output

  -- the lines before one that isn't of its form were served
  pub record FindsWrong (number : ℕ) : Type 0 where
    pub lines : List (List ℕ)
    pub output : List ℕ
    pub rest : List ℕ
    pub text : old.lines ≡ ended_lines lines ++ rest
    pub each : IsTrue (list_all (is_free_of 10) lines)
    pub wrong : BeginsWrong rest
    pub number_is : number ≡ old.count + length lines + 1
    pub served : Serves service stage lines output later
    pub written : new.out.items ≡ old.out.items ++ output

  abbrev pub StopsAt : Stop → Type 0
  StopsAt (Wrong number) = FindsWrong number
  StopsAt NoMemory = TakesFirst

  -- what waits at the input's end was served as a line, or nothing waits
  pub record TakesLast : Type 0 where
    pub output : List ℕ
    pub served : Serves service stage (last_line old.lines) output later
    pub written : new.out.items ≡ old.out.items ++ output

  -- what waits at the input's end isn't of a line's form; nothing was served
  pub record IsWrongLast (number : ℕ) : Type 0 where
    pub wrong : IsRightLine old.lines → ⊥
    pub number_is : number ≡ old.count + 1
    pub same : later ≡ stage
    pub written : new.out.items ≡ old.out.items

  -- memory ran out before what waits was served, or before its reply was printed
  pub record IsShortLast : Type 0 where
    pub served : (later ≡ stage) ⊎ ((output : List ℕ) × Serves service stage (last_line old.lines) output later)
    pub written : new.out.items ≡ old.out.items

  abbrev pub StopsLast : Stop → Type 0
  StopsLast (Wrong number) = IsWrongLast number
  StopsLast NoMemory = IsShortLast
