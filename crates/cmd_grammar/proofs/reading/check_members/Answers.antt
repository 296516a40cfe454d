use Rattle.std.proofs.Common.{ap, subst}
use Rattle.std.specs.Bool.{⊤}
use Rattle.json_tree.specs.View.{tree}
use Rattle.cmd_grammar.specs.Rows.{row_of}
use Rattle.cmd_grammar.specs.Answers.{Passes}
use Rattle.cmd_grammar.proofs.Inside.{fields_are}
use Rattle.cmd_grammar.proofs.reading.check_members.Goals as goal

pub returns-in-Object : goal.returns-in-Object
returns-in-Object c =
    subst (λ r. Passes r (λ _. ⊤) c.check_fields.result)
    (fields_are c.args.name (tree c.args.command.now) (row_of c.table_row.result) c.in-Object.members c.table_row.ensures (ap tree c.in-Object.is))
    c.check_fields.ensures
