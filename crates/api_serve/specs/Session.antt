-- Requests of one connection, as they were served in a session of a store.
use Rattle.std.specs.Prelude.{◌≡◌, ℕ, ℤ, ⊤, List, [], ◌∷◌, ◌++◌, Option}
use Rattle.std.specs.Option.{option_map, ForSome}
use Rattle.std.specs.List.{flat_map}
use Rattle.outside_io.specs.Times.{next_time, times_after}
use Rattle.reply_env.specs.Reply.{reply_text}
use Rattle.reply_env.specs.declared.request.Request.{Request}
use Rattle.store_core.specs.State.{State}
use Rattle.rand_core.specs.Stream.{Stream}
use Rattle.cmd_tasks.specs.Ids.{drawn, after_drawing}
use Rattle.cmd_tasks.specs.Session.{Exchange, draws_of, IsSession}
use Rattle.api_serve.specs.Grown.{Grown}
use Rattle.api_serve.specs.Answered.{IsAskedBy, IsTraceOf}
use Rattle.store_core.specs.declared.entry.Entry.{Entry}
use Rattle.cmd_tasks.specs.declared.trace.Trace.{Trace}

-- one exchange for each request, in order
abbrev pub AreAsked : List ℕ → List Request → List Exchange → Type 0
AreAsked keyspace [] [] = ⊤
AreAsked keyspace [] (x ∷ exchanges) = ⊥
AreAsked keyspace (request ∷ requests) [] = ⊥
AreAsked keyspace (request ∷ requests) (x ∷ exchanges) = IsAskedBy keyspace request x.asking × AreAsked keyspace requests exchanges

-- one trace for each exchange, in order
abbrev pub AreTraces : List Trace → List Exchange → Type 0
AreTraces [] [] = ⊤
AreTraces [] (x ∷ exchanges) = ⊥
AreTraces (kept ∷ traces) [] = ⊥
AreTraces (kept ∷ traces) (x ∷ exchanges) = IsTraceOf kept x × AreTraces traces exchanges

-- the replies, each with its LF
abbrev pub reply_lines : List Exchange → List ℕ
reply_lines exchanges = flat_map (λ x. reply_text x.reply ++ 10 ∷ []) exchanges

-- the moments are the clock's next times, in order
abbrev pub AreMoments : List ℤ → List Exchange → Type 0
AreMoments times [] = ⊤
AreMoments times (x ∷ exchanges) = (x.moment ≡ next_time times) × AreMoments (times_after times) exchanges

-- the times that the clock gives behind them
abbrev pub times_behind : List Exchange → List ℤ → List ℤ
times_behind [] times = times
times_behind (x ∷ exchanges) times = times_behind exchanges (times_after times)

-- the ids of each are the next that are drawn from this stream, as many as the request needs, in order
abbrev pub AreDrawn : Stream → List Exchange → Type 0
AreDrawn stream [] = ⊤
AreDrawn stream (x ∷ exchanges) = (x.ids ≡ drawn (draws_of x.asking) stream) × AreDrawn (after_drawing (draws_of x.asking) stream) exchanges

-- what is left of it behind them
abbrev pub stream_behind : List Exchange → Stream → Stream
stream_behind [] stream = stream
stream_behind (x ∷ exchanges) stream = stream_behind exchanges (after_drawing (draws_of x.asking) stream)

-- whose requests are served: those of this keyspace, by the session of this number, in a history that begins in this state, where told
pub record Service : Type 0 where
  pub keyspace : List ℕ
  pub start : Option State
  pub number : ℕ

-- what is seen at a moment: the history, the keeper's count of faults, the traces of the session's requests so far, and the times that the clock gives from then on, where told
pub record Serving : Type 0 where
  pub journal : List Entry
  pub failed : ℕ
  pub traces : List Trace
  pub times : Option (List ℤ)

-- the same within a session, with the stream that its next ids are drawn from
pub record Stage : Type 0 where
  pub journal : List Entry
  pub failed : ℕ
  pub traces : List Trace
  pub times : Option (List ℤ)
  pub ids : Stream

-- between two moments the session made these exchanges, and nothing else was done
pub record Makes (service : Service) (before : Stage) (exchanges : List Exchange) (after : Stage) : Type 0 where
  pub grown : Grown service.number before.journal before.failed after.journal after.failed
  pub session : ForSome service.start (λ base. (earlier : List Exchange) → IsSession base before.journal service.number earlier → IsSession base after.journal service.number (earlier ++ exchanges))
  pub more : List Trace
  pub traces : after.traces ≡ before.traces ++ more
  pub kept : AreTraces more exchanges
  pub moments : ForSome before.times (λ times. AreMoments times exchanges)
  pub clock : after.times ≡ option_map (times_behind exchanges) before.times
  pub drawn : AreDrawn before.ids exchanges
  pub left : after.ids ≡ stream_behind exchanges before.ids
