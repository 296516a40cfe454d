use Rattle.std.proofs.Common.{ap}
use Rattle.json_tree.specs.View.{tree}
use Rattle.update_ops.specs.Apply.{added}
use Rattle.update_ops.proofs.Walks.{puts_list}
use Rattle.update_ops.proofs.lists.add_to.Goals as goal

pub returns-in-List : goal.returns-in-List
returns-in-List c = puts_list c.add_to_list.result (added c.args.values.now) c.args.path.now (tree c.args.there.now) c.in-List.items (ap tree c.in-List.is) c.add_to_list.ensures
