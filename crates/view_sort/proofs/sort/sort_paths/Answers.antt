use Rattle.json_tree.specs.View.{tree}
use Rattle.view_sort.proofs.SortReading.{fails, reads_more}
use Rattle.view_sort.proofs.sort.sort_paths.Goals as goal

pub returns-in-Err : goal.returns-in-Err
returns-in-Err c = fails c.loop-i.keys.items c.args.members.now c.loop-i.i c.in-Some.name.now c.as_str.result.now (tree c.in-Some.value.now) c.in-Err.e c.in-Some.ensures c.as_str.ensures c.loop-i.invariant c.in-Err.ensures

pub loop-i-preserved : goal.loop-i-preserved
loop-i-preserved c =
    reads_more c.loop-i.keys.items c.push.new.self.items c.args.members.now c.loop-i.i c.in-Some.name.now c.as_str.result.now (tree c.in-Some.value.now) c.in-Ok.key c.in-Some.ensures c.as_str.ensures c.loop-i.invariant
    c.in-Ok.ensures c.in_ok-push-in-Ok.ensures.items
