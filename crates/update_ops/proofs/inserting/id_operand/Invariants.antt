use Rattle.std.proofs.Common.{◌≡◌, map, drop}
use Rattle.update_ops.specs.View.{equality_of}
use Rattle.update_ops.specs.Upsert.{id_operand}
use Rattle.update_ops.proofs.inserting.id_operand.Given as goal

abbrev pub invariant-loop-equality : goal.invariant-loop-equality
invariant-loop-equality l = id_operand (map equality_of (drop l.equality-index l.equalities)) ≡ id_operand (map equality_of l.equalities)
