-- A trace fits in a history.
use Rattle.std.specs.Prelude.{◌≡◌, ℕ, List, [], ◌∷◌, length, drop, ⊤}
use Rattle.cmd_tasks.specs.Trace.{point}
use Rattle.cmd_tasks.specs.Session.{AreOrdered, AreWithin, places, written}
use Rattle.store_core.specs.declared.entry.Entry.{Entry}
use Rattle.cmd_tasks.specs.declared.trace.Item.{Item}

-- the entries by the session at the first point and behind it are those that the trace wrote
abbrev pub OwnFrom : ℕ → List Entry → List Item → Type 0
OwnFrom k H [] = ⊤
OwnFrom k H (i ∷ is) = places k (point i) (drop (point i) H) ≡ written (i ∷ is)

-- the trace fits in the history: its points don't fall, none is above the history's end, and it has the session's entries, each once
pub record IsPlaced (k : ℕ) (H : List Entry) (trace : List Item) : Type 0 where
  pub ordered : AreOrdered 0 trace
  pub within : AreWithin (length H) trace
  pub own : OwnFrom k H trace
