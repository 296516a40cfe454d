use Rattle.std.proofs.Common.{map}
use Rattle.json_tree.specs.View.{tree}
use Rattle.cmd_grammar.specs.Rows.{field_of}
use Rattle.cmd_grammar.specs.Fields.{option_refusal}
use Rattle.cmd_grammar.proofs.Order.{refuses_at, passes_at}
use Rattle.cmd_grammar.proofs.fields.check_each_option.Goals as goal

pub returns-in-Err : goal.returns-in-Err
returns-in-Err c =
    refuses_at (option_refusal (map field_of c.args.fields.now)) c.args.options.now c.loop-i.i (c.in-Some.name.now, tree c.in-Some.value.now) c.in-Err.fault c.in-Some.ensures
    (rw c.as_str.ensures at c.in-Err.ensures) c.loop-i.invariant

pub loop-i-preserved : goal.loop-i-preserved
loop-i-preserved c =
    passes_at (option_refusal (map field_of c.args.fields.now)) c.args.options.now c.loop-i.i (c.in-Some.name.now, tree c.in-Some.value.now) c.in-Some.ensures
    (rw c.as_str.ensures at c.in-Ok.ensures.0) c.loop-i.invariant
