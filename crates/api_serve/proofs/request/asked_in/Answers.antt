use Rattle.std.proofs.Common.{length, ap, arith, ◌≤◌, ◌≡◌}
use Rattle.api_serve.proofs.Places.{same_parts}
use Rattle.api_serve.proofs.request.asked_in.Goals as goal

pub returns-in_default-place_of : goal.returns-in_default-place_of
returns-in_default-place_of c = λ request asks.
    let parts = same_parts c.in-Some.rest.now c.in-Some-cut.path.now c.in-Some-cut.body.now c.args.line.now request c.in-Some.ensures c.in-Some-cut.ensures.some.0 c.in-Some-cut.ensures.some.1 asks in
    c.place_of.ensures.none c.in_default-place_of.is request.keyspace request.collection parts.0

pub returns-then-body-gt-MAX_BODY : goal.returns-then-body-gt-MAX_BODY
returns-then-body-gt-MAX_BODY c = λ request asks.
    let parts = same_parts c.in-Some.rest.now c.in-Some-cut.path.now c.in-Some-cut.body.now c.args.line.now request c.in-Some.ensures c.in-Some-cut.ensures.some.0 c.in-Some-cut.ensures.some.1 asks in
    let size : length c.in-Some-cut.body.now ≡ length request.body = ap length parts.1 in
    let most : length request.body ≤ 20000000 = asks.body in
    omega arith
