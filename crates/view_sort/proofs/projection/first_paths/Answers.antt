use Rattle.json_tree.specs.View.{tree}
use Rattle.view_sort.proofs.RuleReading.{paths_more}
use Rattle.view_sort.proofs.projection.first_paths.Goals as goal

pub loop-i-preserved : goal.loop-i-preserved
loop-i-preserved c =
    paths_more c.loop-i.paths.items c.push.new.self.items c.args.members.now c.loop-i.i c.in-Some.name.now c.as_str.result.now c.in-Ok.path (tree c.in-Some.field-0-1.now) c.in-Some.ensures c.as_str.ensures c.in-Ok.ensures.ok.0 c.loop-i.invariant
    c.in_ok-push-in-Ok.ensures.items
