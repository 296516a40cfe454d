use Rattle.std.proofs.Common.{◌≡◌, map, take}
use Rattle.json_tree.specs.View.{tree}
use Rattle.view_sort.specs.View.{view}
use Rattle.cmd_tasks.proofs.finds.views_of.Given as goal

abbrev pub invariant-rows : goal.invariant-rows
invariant-rows l = map tree l.views.items ≡ map (λ v. view l.projection v.doc) (take l.row-index l.rows)
