use Rattle.std.proofs.Common.{ap, sym, option_map}
use Rattle.json_tree.specs.View.{tree}
use Rattle.update_ops.specs.Apply.{shortened}
use Rattle.update_ops.proofs.Idle.{gives_as}
use Rattle.update_ops.proofs.Walks.{elements_at}
use Rattle.update_ops.proofs.lists.pop_from.Goals as goal

pub returns-in-List : goal.returns-in-List
returns-in-List c = gives_as (option_map tree) c.popped_list.result _ _ (ap (shortened c.args.last) (sym (elements_at c.args.path.now (tree c.args.there.now) c.in-List.items (ap tree c.in-List.is)))) c.popped_list.ensures
