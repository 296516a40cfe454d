use Rattle.std.proofs.Common.{◌≡◌, suc, ◌+◌, ◌-◌, ◌*◌, ◌^◌, ap, ◌∙◌, sym, arith}
use Rattle.json_tree.specs.Decimals.{ten_step, ten_fits, in_range-large}
use Rattle.json_tree.proofs.decimal.times.Goals as goal

pub returns-then-n : goal.returns-then-n
returns-then-n c =
    let k = c.args.power - (c.tens._i + 1) in
    let e : c.args.power - c.tens._i ≡ suc k = omega arith in
    sym (in_range-large _ (omega (arith, ten_fits c.tens.n k, ap (λ m. c.tens.n * 10 ^ m) e, c.tens.invariant.same)))

pub tens-preserved : goal.tens-preserved
tens-preserved c =
    let k = c.args.power - (c.tens._i + 1) in
    let e : c.args.power - c.tens._i ≡ suc k = omega arith in record {
      fits = omega arith;
      same = ten_step c.tens.n k ∙ ap (λ m. c.tens.n * 10 ^ m) (sym e) ∙ c.tens.invariant.same;
    }
