use Rattle.std.proofs.Common.{arith, ◌<◌}
use Rattle.json_tree.specs.Bytes.{byte_fits}
use Rattle.json_tree.proofs.key.read_bytes.Goals as goal

pub overflow_mul-n : goal.overflow_mul-n
overflow_mul-n c = omega (arith, byte_fits c.bytes.b-index c.bytes.n 0 (omega arith) c.bytes.invariant.bound (omega arith))

pub overflow_add-n : goal.overflow_add-n
overflow_add-n c =
    let byte : c.from.result < 256 = omega (arith, c.from.ensures, c.type_inv.bytes c.bytes.b-index) in
    omega (arith, byte_fits c.bytes.b-index c.bytes.n c.from.result (omega arith) c.bytes.invariant.bound byte)
