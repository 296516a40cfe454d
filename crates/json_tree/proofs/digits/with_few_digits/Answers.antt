use Rattle.std.proofs.Common.{arith}
use Rattle.json_tree.proofs.Roundings.{few_more}
use Rattle.json_tree.proofs.digits.with_few_digits.Goals as goal

pub overflow_mul-n : goal.overflow_mul-n
overflow_mul-n c =
    let more = few_more c.args.digits.now c.digits.b-index c.digits.n _ (omega arith) c.digits.invariant.left c.digits.invariant.same c.requires.few in
    omega (arith, more)

pub overflow_add-n : goal.overflow_add-n
overflow_add-n c =
    let more = few_more c.args.digits.now c.digits.b-index c.digits.n _ (omega arith) c.digits.invariant.left c.digits.invariant.same c.requires.few in
    omega (arith, more)
