use Rattle.json_tree.specs.View.{tree}
use Rattle.cmd_grammar.specs.Documents.{document_refusal}
use Rattle.cmd_grammar.proofs.Tested.{member_tested, member_untested}
use Rattle.cmd_grammar.proofs.contents.check_inserted.Goals as goal

pub returns-in-Some : goal.returns-in-Some
returns-in-Some c = member_tested document_refusal _ (tree c.in-Some.document.now) c.check_document.result c.in-Some.ensures c.check_document.ensures

pub returns-in-None : goal.returns-in-None
returns-in-None c = member_untested document_refusal _ tt c.in-None.ensures
