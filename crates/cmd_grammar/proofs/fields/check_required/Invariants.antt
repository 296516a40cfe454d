use Rattle.std.proofs.Common.{◌≡◌, map, drop}
use Rattle.cmd_grammar.specs.Rows.{field_of}
use Rattle.cmd_grammar.specs.First.{first_by}
use Rattle.cmd_grammar.specs.Fields.{missing_refusal}
use Rattle.cmd_grammar.proofs.fields.check_required.Given as goal

abbrev pub invariant-loop-field : goal.invariant-loop-field
invariant-loop-field l = first_by (missing_refusal l.members) (map field_of l.fields) ≡ first_by (missing_refusal l.members) (map field_of (drop l.field-index l.fields))
