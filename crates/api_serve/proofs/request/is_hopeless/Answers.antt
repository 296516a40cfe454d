use Rattle.std.proofs.Common.{length, arith, ◌<◌}
use Rattle.std.proofs.lemmas.Bool.{ltb-true}
use Rattle.api_serve.proofs.Places.{long_hopeless, pathless, long_seen}
use Rattle.api_serve.proofs.request.is_hopeless.Goals as goal

pub returns-in_default-clause-hopeless : goal.returns-in_default-clause-hopeless
returns-in_default-clause-hopeless c = λ yes. let long : 4 < length c.args.part.now = omega arith in pathless c.args.part.now long c.in_default.ensures

pub returns-in-Some-cut-clause-hopeless : goal.returns-in-Some-cut-clause-hopeless
returns-in-Some-cut-clause-hopeless c = λ long. long_hopeless c.args.part.now c.in-Some-cut.field-0-0.now c.in-Some-cut.body.now c.in-Some-cut.ensures.some.0 c.in-Some-cut.ensures.some.1 (ltb-true _ _ long)

pub returns-in-Some-cut-clause-long : goal.returns-in-Some-cut-clause-long
returns-in-Some-cut-clause-long c = λ path body text free long.
    long_seen c.args.part.now c.in-Some-cut.field-0-0.now c.in-Some-cut.body.now path body c.in-Some-cut.ensures.some.0 c.in-Some-cut.ensures.some.1 text free long
