use Rattle.std.specs.Prelude.{[]}
use Rattle.view_sort.specs.Walk.{IsGrouped}
use Rattle.view_sort.proofs.groups.no_rules.Given as goal

abbrev pub invariant-loop-i : goal.invariant-loop-i
invariant-loop-i l = IsGrouped (λ v. v.items) l.groups []
