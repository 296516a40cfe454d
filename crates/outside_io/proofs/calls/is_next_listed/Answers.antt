use Rattle.std.proofs.Common.{◌≤◌, ◌+◌, ◌^◌, arith, sym}
use Rattle.outside_io.proofs.Counting.{above_none}
use Rattle.outside_io.proofs.calls.is_next_listed.Goals as goal

pub returns-in-None-clause-value : goal.returns-in-None-clause-value
returns-in-None-clause-value c =
    let above : 2 ^ 64 ≤ c.args.made + 1 = omega (arith, c.in-None.ensures) in
    sym (above_none c.args.fails.now (2 ^ 64) (c.args.made + 1) (λ i. omega (arith, c.type_inv.fails i)) above)
