use Rattle.json_tree.specs.View.{tree}
use Rattle.cmd_grammar.specs.Parts.{page_text}
use Rattle.cmd_grammar.proofs.Page.{state_read, state_refused, no_text}
use Rattle.cmd_grammar.proofs.views.read_page.Goals as goal

pub returns-in-Ok : goal.returns-in-Ok
returns-in-Ok c = state_read (page_text (tree c.args.command.now)) c.in-Some.text.now c.in-Ok.state c.in-Some.ensures (rw c.as_str.ensures at c.in-Ok.ensures.ok)

pub returns-in-Err : goal.returns-in-Err
returns-in-Err c = state_refused (page_text (tree c.args.command.now)) c.in-Some.text.now c.in-Err.fault c.refused.result c.in-Some.ensures (rw c.as_str.ensures at c.in-Err.ensures.err) c.refused.ensures.told c.refused.ensures.wanting

pub returns-in-None : goal.returns-in-None
returns-in-None c = no_text (page_text (tree c.args.command.now)) c.in-None.ensures
