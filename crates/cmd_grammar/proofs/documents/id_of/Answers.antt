use Rattle.std.proofs.Common.{ap}
use Rattle.json_tree.specs.View.{tree}
use Rattle.cmd_grammar.proofs.Inside.{id_is}
use Rattle.cmd_grammar.proofs.documents.id_of.Goals as goal

pub returns-in-Object : goal.returns-in-Object
returns-in-Object c = id_is (tree c.args.document.now) c.in-Object.members _ (ap tree c.in-Object.is) c.get.ensures
