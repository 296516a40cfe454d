-- What a request asks, and the trace of its exchange.
use Rattle.std.specs.Prelude.{◌≡◌, ⊤, ℕ, List}
use Rattle.reply_env.specs.declared.request.Request.{Request}
use Rattle.cmd_grammar.specs.Asked.{target}
use Rattle.cmd_grammar.specs.Requests.{AsksFor, IsRefused}
use Rattle.cmd_tasks.specs.Session.{Asking, asks_for, is_refused, is_unread, Exchange}
use Rattle.cmd_tasks.specs.declared.trace.Trace.{Trace}

-- what the request asks: a command on the collection that it is about, if it is about one, or it is refused by itself; or memory ran out before it was read
abbrev pub IsAskedBy : List ℕ → Request → Asking → Type 0
IsAskedBy keyspace request (asks_for coll command) = AsksFor keyspace request command × (coll ≡ target request.place command)
IsAskedBy keyspace request (is_refused error) = IsRefused keyspace request error
IsAskedBy keyspace request is_unread = ⊤

-- the trace that is handed back of an exchange
abbrev pub IsTraceOf : Trace → Exchange → Type 0
IsTraceOf kept x = (kept.moment ≡ x.moment) × (kept.items.items ≡ x.trace)
