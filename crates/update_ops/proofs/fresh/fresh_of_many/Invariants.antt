use Rattle.std.proofs.Common.{◌≡◌, ◌++◌, map, drop, true}
use Rattle.json_tree.specs.View.{tree}
use Rattle.update_ops.specs.View.{trees}
use Rattle.update_ops.specs.Apply.{added}
use Rattle.update_ops.specs.Seen.{are_seen}
use Rattle.update_ops.proofs.fresh.fresh_of_many.Given as goal

abbrev pub invariant-loop-value : goal.invariant-loop-value
invariant-loop-value l = record {
  seen : are_seen l.seen (map tree l.elements ++ trees l.fresh.items) ≡ true;
  made : added (map tree (drop l.value-index l.values)) (map tree l.elements ++ trees l.fresh.items) ≡ added (map tree l.values) (map tree l.elements);
}
