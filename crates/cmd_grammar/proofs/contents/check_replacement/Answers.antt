use Rattle.json_tree.specs.View.{tree}
use Rattle.cmd_grammar.specs.Documents.{replacing_refusal}
use Rattle.cmd_grammar.proofs.Tested.{member_tested, member_untested}
use Rattle.cmd_grammar.proofs.contents.check_replacement.Goals as goal

pub returns-in-Some : goal.returns-in-Some
returns-in-Some c = member_tested replacing_refusal _ (tree c.in-Some.replacement.now) c.check_replacing.result c.in-Some.ensures c.check_replacing.ensures

pub returns-in-None : goal.returns-in-None
returns-in-None c = member_untested replacing_refusal _ tt c.in-None.ensures
