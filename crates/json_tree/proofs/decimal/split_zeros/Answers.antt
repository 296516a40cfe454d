use Rattle.std.proofs.Common.{arith, sym}
use Rattle.json_tree.specs.Decimals.{divided-step}
use Rattle.json_tree.proofs.decimal.split_zeros.Goals as goal

pub zeros-preserved : goal.zeros-preserved
zeros-preserved c =
    record { whole = sym (divided-step c.args.magnitude c.zeros.left c.zeros.taken (sym c.zeros.invariant.whole) (omega arith)); most = omega arith }
