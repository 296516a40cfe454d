use Rattle.std.proofs.lemmas.Map.Text.{btree_map_updates_str}
use Rattle.view_sort.proofs.ByName.{with_none}
use Rattle.view_sort.proofs.groups.no_rules.Goals as goal

pub loop-i-preserved : goal.loop-i-preserved
loop-i-preserved c =
    with_none (λ v. v.items) c.loop-i.groups c.insert.new.self c.as_str.result.now c.new.result c.new.ensures.items (btree_map_updates_str c.as_str.result.now c.loop-i.groups c.insert.new.self _ c.in_ok-insert.ensures.updates) c.loop-i.invariant
