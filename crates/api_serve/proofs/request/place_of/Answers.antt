use Rattle.std.proofs.Common.{sym}
use Rattle.api_serve.proofs.Places.{bad_first, bad_second}
use Rattle.api_serve.proofs.request.place_of.Goals as goal

pub returns-then-not-is_part-2-clause-none : goal.returns-then-not-is_part-2-clause-none
returns-then-not-is_part-2-clause-none c = λ none.
    bad_first c.args.path.now c.in-Some.keyspace.now c.in-Some.collection.now c.in-Some.ensures.some.0 c.in-Some.ensures.some.1 (sym c.if-not-is_part-2.ensures)

pub returns-then-not-is_part-3-clause-none : goal.returns-then-not-is_part-3-clause-none
returns-then-not-is_part-3-clause-none c = λ none.
    bad_second c.args.path.now c.in-Some.keyspace.now c.in-Some.collection.now c.in-Some.ensures.some.0 c.in-Some.ensures.some.1 (sym c.if-not-is_part-3.ensures)
