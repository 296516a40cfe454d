-- Lines served one behind the other, and what a run makes of its store.
use Rattle.std.specs.Prelude.{◌≡◌, ℕ, ◌+◌, ◌^◌, ◌<◌, List, [], ◌∷◌, ◌++◌, length, take, Option, ◌⊎◌}
use Rattle.std.specs.Option.{ForSome}
use Rattle.outside_io.specs.Told.{then_left, Reading, Writing, Takes}
use Rattle.reply_env.specs.declared.request.Request.{Request}
use Rattle.api_serve.specs.Lines.{HasLines, Splits, BeginsWith}
use Rattle.api_serve.specs.Request.{AskFor, IsRightLine, AreRightLines}
use Rattle.store_core.specs.State.{State}
use Rattle.cmd_tasks.specs.Ids.{begins}
use Rattle.cmd_tasks.specs.Session.{Exchange, IsSession, AreCounted}
use Rattle.store_core.specs.Counts.{AllBy, opened_in}
use Rattle.api_serve.specs.Session.{Service, Serving, Stage, Makes, AreAsked, AreTraces, AreMoments, AreDrawn, reply_lines}
use Rattle.store_core.specs.declared.entry.Entry.{Entry}
use Rattle.store_core.specs.declared.entry.Entry.TheVariants.{Opened}

-- between two moments of a session the requests of these lines were served, with these replies
pub record Serves (service : Service) (before : Stage) (lines : List (List ℕ)) (output : List ℕ) (after : Stage) : Type 0 where
  pub requests : List Request
  pub exchanges : List Exchange
  pub requested : AskFor lines requests
  pub asked : AreAsked service.keyspace requests exchanges
  pub made : Makes service before exchanges after
  pub text : output ≡ reply_lines exchanges

-- A session was opened behind the history, which begins in this state, where told, and whose first write has this number. It
-- served the requests of these lines, with these replies; its ids were drawn from what the seed, that number and the session's
-- own give. Nothing else was done.
pub record ServesLines (keyspace seed : List ℕ) (start : Option State) (first : ℕ) (before after : Serving) (lines : List (List ℕ)) (output : List ℕ) : Type 0 where
  pub requests : List Request
  pub exchanges : List Exchange
  pub requested : AskFor lines requests
  pub asked : AreAsked keyspace requests exchanges
  pub number : ℕ
  pub number_is : number ≡ opened_in before.journal
  pub more : List Entry
  pub journal : after.journal ≡ before.journal ++ Opened number ∷ more
  pub alone : AllBy number more
  pub counted : AreCounted before.failed after.failed more
  pub session : ForSome start (λ base. IsSession base after.journal number exchanges)
  pub traces : AreTraces after.traces exchanges
  pub moments : ForSome before.times (λ times. AreMoments times exchanges)
  pub drawn : AreDrawn (begins seed first number) exchanges
  pub text : output ≡ reply_lines exchanges

-- between two moments these bytes were read, where told, and no others
abbrev pub Reads : Reading → List ℕ → Reading → Type 0
Reads from input to = from.left ≡ then_left input to.left

-- exactly so many bytes were read
abbrev pub HasRead : Reading → Reading → ℕ → Type 0
HasRead from to count = (input : List ℕ) × (length input ≡ count) × Reads from input to

-- behind these lines of the input, which are of their form, stands one that isn't
pub record IsWrongBehind (input : List ℕ) (lines : List (List ℕ)) : Type 0 where
  pub line : List ℕ
  pub after : List (List ℕ)
  pub has_lines : HasLines input (lines ++ line ∷ after)
  pub earlier : AreRightLines lines
  pub wrong : IsRightLine line → ⊥

-- the bytes that were read begin with these lines; or they are all of the input, and these are its lines
abbrev pub AreFirstLines : Reading → List ℕ → List (List ℕ) → Type 0
AreFirstLines to input lines = BeginsWith input lines ⊎ (ForSome to.left (λ rest. rest ≡ []) × HasLines input lines)

-- How a run ends, over what is said of the lines that were served and of their replies
module _ (Served : List (List ℕ) → List ℕ → Type 0) (from to : Reading) (before after : Writing) where
  -- the whole input was read, of fewer bytes than 2^40, and the replies to all of its requests were written, and nothing else
  pub record ServesInput : Type 0 where
    pub input : List ℕ
    pub lines : List (List ℕ)
    pub output : List ℕ
    pub read : Reads from input to
    pub size : length input < 2 ^ 40
    pub ended : ForSome to.left (λ rest. rest ≡ [])
    pub has_lines : HasLines input lines
    pub served : Served lines output
    pub written : Takes before output after

  -- so many bytes were read, and the replies to the requests of all whole lines among them were written, and nothing else
  pub record ServesWholeLines (count : ℕ) : Type 0 where
    pub input : List ℕ
    pub lines : List (List ℕ)
    pub part : List ℕ
    pub output : List ℕ
    pub read : Reads from input to
    pub size : length input ≡ count
    pub split : Splits input lines part
    pub served : Served lines output
    pub written : Takes before output after

  -- the input's line of this number, from 1, is the first that isn't of its form; the replies to the requests of all lines before it were written, and nothing else
  pub record ServesBefore (number : ℕ) : Type 0 where
    pub lines : List (List ℕ)
    pub output : List ℕ
    pub number_is : number ≡ length lines + 1
    pub wrong : ForSome from.left (λ input. IsWrongBehind input lines)
    pub served : Served lines output
    pub written : Takes before output after

  -- the requests of some first lines of the input were served, and a front of their replies was written, and nothing else
  pub record ServesFirst : Type 0 where
    pub input : List ℕ
    pub lines : List (List ℕ)
    pub output : List ℕ
    pub count : ℕ
    pub read : Reads from input to
    pub first : AreFirstLines to input lines
    pub served : Served lines output
    pub written : Takes before (take count output) after

  -- and that isn't all of them
  pub record ServesCut : Type 0 where
    pub first : ServesFirst
    pub cut : first.count < length first.output
