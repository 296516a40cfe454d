use Rattle.std.proofs.Common.{arith}
use Rattle.api_serve.proofs.Cuts.{free_before, free_all, cut_at}
use Rattle.api_serve.proofs.bytes.cut.Goals as goal

pub returns-in-Some-clause-some : goal.returns-in-Some-clause-some
returns-in-Some-clause-some c = (
  cut_at c.args.bytes.now c.in-Some.at _ c.args.separator c.in-Some.ensures.0.high c.in-Some.ensures.1 (omega arith),
  free_before c.args.separator c.args.bytes.now c.in-Some.at c.in-Some.ensures.0.before,
)

pub returns-in-None-clause-none : goal.returns-in-None-clause-none
returns-in-None-clause-none c = λ none. free_all c.args.separator c.args.bytes.now c.in-None.ensures
