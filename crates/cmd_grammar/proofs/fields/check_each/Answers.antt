use Rattle.json_tree.specs.View.{tree}
use Rattle.cmd_grammar.specs.Rows.{row_of}
use Rattle.cmd_grammar.specs.Fields.{member_refusal}
use Rattle.cmd_grammar.proofs.Order.{refuses_at, passes_at}
use Rattle.cmd_grammar.proofs.fields.check_each.Goals as goal

pub returns-in-Err : goal.returns-in-Err
returns-in-Err c =
    refuses_at (member_refusal (row_of c.args.row)) c.args.members.now c.loop-i.i (c.in-Some.name.now, tree c.in-Some.value.now) c.in-Err.fault c.in-Some.ensures
    (rw c.as_str.ensures at c.in-Err.ensures) c.loop-i.invariant

pub loop-i-preserved : goal.loop-i-preserved
loop-i-preserved c =
    passes_at (member_refusal (row_of c.args.row)) c.args.members.now c.loop-i.i (c.in-Some.name.now, tree c.in-Some.value.now) c.in-Some.ensures
    (rw c.as_str.ensures at c.in-Ok.ensures.0) c.loop-i.invariant
