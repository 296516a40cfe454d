use Rattle.std.proofs.Common.{◌≡◌, map, drop}
use Rattle.cmd_grammar.specs.Rows.{field_of}
use Rattle.cmd_grammar.specs.First.{first_by}
use Rattle.cmd_grammar.specs.Fields.{option_refusal}
use Rattle.cmd_grammar.proofs.fields.check_each_option.Given as goal

abbrev pub invariant-loop-i : goal.invariant-loop-i
invariant-loop-i l = first_by (option_refusal (map field_of l.fields)) l.options ≡ first_by (option_refusal (map field_of l.fields)) (drop l.i l.options)
