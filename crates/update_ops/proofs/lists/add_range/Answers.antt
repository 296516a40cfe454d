use Rattle.json_tree.specs.View.{tree}
use Rattle.update_ops.proofs.Walks.{range_past}
use Rattle.update_ops.proofs.lists.add_range.Goals as goal

pub loop-i-preserved : goal.loop-i-preserved
loop-i-preserved c = range_past c.args.items.now c.loop-i.i c.args.to (tree c.in-Some.item.now) c.loop-i.out c.push_copy.new.out _ c.loop-i-test.true c.in-Some.ensures c.in_ok-push_copy.ensures.ok c.loop-i.invariant
