use Rattle.std.proofs.Common.{sym, ◌∙◌}
use Rattle.std.proofs.lemmas.Map.Text.{btree_map_updates_str}
use Rattle.view_sort.proofs.ByName.{group_is, without}
use Rattle.view_sort.proofs.groups.taken.Goals as goal

pub returns-in-Some-clause-ok : goal.returns-in-Some-clause-ok
returns-in-Some-clause-ok c = group_is (λ v. v.items) c.args.groups.now c.args.rests.now c.args.name.now c.in-Some.group c.requires (sym c.in-Some.is ∙ c.remove.ensures.value)

pub returns-in-Some-clause-groups : goal.returns-in-Some-clause-groups
returns-in-Some-clause-groups c =
    without (λ v. v.items) c.args.groups.now c.remove.new.self c.args.rests.now c.args.name.now (btree_map_updates_str c.args.name.now c.args.groups.now c.remove.new.self _ c.remove.ensures.updates) c.requires
