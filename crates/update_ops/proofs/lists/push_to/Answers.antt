use Rattle.std.proofs.Common.{ap}
use Rattle.json_tree.specs.View.{tree}
use Rattle.update_ops.specs.Apply.{pushed}
use Rattle.update_ops.proofs.Walks.{gives_list}
use Rattle.update_ops.proofs.lists.push_to.Goals as goal

pub returns-in-List : goal.returns-in-List
returns-in-List c = gives_list c.pushed_list.result (pushed c.args.values.now c.args.place) c.args.path.now (tree c.args.there.now) c.in-List.items (ap tree c.in-List.is) c.pushed_list.ensures.ok c.pushed_list.ensures.err
