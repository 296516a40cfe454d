use Rattle.std.proofs.Common.{◌≡◌, ◌*◌, ◌^◌, ap, ◌∙◌, sym, arith}
use Rattle.json_tree.specs.Decimals.{divided-none, divided-step, divided-whole}
use Rattle.json_tree.proofs.decimal.over.Goals as goal

pub returns-then-n-ne0 : goal.returns-then-n-ne0
returns-then-n-ne0 c = sym (divided-none c.args.n c.tens.n c.tens._i c.args.power c.tens.invariant (omega arith) c.if-n-ne0.true)

pub tens-preserved : goal.tens-preserved
tens-preserved c = divided-step c.args.n c.tens.n c.tens._i c.tens.invariant (omega arith)

pub returns : goal.returns
returns c = let e : c.tens._i ≡ c.args.power = omega arith in sym (divided-whole c.args.n c.tens.n c.args.power (c.tens.invariant ∙ ap (λ k. c.tens.n * 10 ^ k) e))
