use Rattle.std.proofs.Common.{◌≡◌, drop}
use Rattle.std.specs.List.{list_all}
use Rattle.doc_limits.specs.Names.{is_plain_byte, is_plain}
use Rattle.update_ops.proofs.operand.is_plain.Given as goal

abbrev pub invariant-loop-b : goal.invariant-loop-b
invariant-loop-b l = list_all is_plain_byte (drop l.b-index l.b-items) ≡ is_plain l.name
