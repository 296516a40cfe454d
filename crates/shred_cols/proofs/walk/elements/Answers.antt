use Rattle.std.proofs.Common.{ap}
use Rattle.json_tree.specs.View.{tree}
use Rattle.shred_cols.proofs.Walked.{elements_in_list}
use Rattle.shred_cols.proofs.walk.elements.Goals as goal

pub returns-in-List : goal.returns-in-List
returns-in-List c = elements_in_list (tree c.args.value.now) c.in-List.items (ap tree c.in-List.is)
