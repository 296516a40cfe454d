use Rattle.json_tree.specs.View.{tree}
use Rattle.filter_plan.proofs.Making.{taken}
use Rattle.filter_plan.proofs.planning.kept_each.Goals as goal

pub loop-i-preserved : goal.loop-i-preserved
loop-i-preserved c =
    taken c.args.operands.now c.loop-i.i (tree c.in-Some.operand.now) c.loop-i.kepts c.add_kept.new.kepts c.in_ok-kept.kept _ c.in-Some.ensures c.in_ok-kept.ensures c.in_ok-add_kept.ensures c.loop-i.invariant
