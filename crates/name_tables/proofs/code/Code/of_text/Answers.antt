use Rattle.name_tables.proofs.Rows.{code-at, no_code-at}
use Rattle.name_tables.proofs.code.Code.of_text.Goals as goal

pub returns-in-Some : goal.returns-in-Some
returns-in-Some c =
    code-at c.in-Some.row c.args.text.now c.in_row.result c.in_row.ensures (rw c.codes.ensures at c.in-Some.ensures.found)

pub returns-in-None : goal.returns-in-None
returns-in-None c = no_code-at c.args.text.now (rw c.codes.ensures at c.in-None.ensures.found)
