use Rattle.std.proofs.Common.{◌≡◌, drop}
use Rattle.cmd_grammar.specs.Rows.{row_of}
use Rattle.cmd_grammar.specs.First.{first_by}
use Rattle.cmd_grammar.specs.Fields.{member_refusal}
use Rattle.cmd_grammar.proofs.fields.check_each.Given as goal

abbrev pub invariant-loop-i : goal.invariant-loop-i
invariant-loop-i l = first_by (member_refusal (row_of l.row)) l.members ≡ first_by (member_refusal (row_of l.row)) (drop l.i l.members)
