use Rattle.std.specs.Prelude.{◌≡◌, drop}
use Rattle.std.specs.List.{list_any}
use Rattle.view_sort.specs.Projection.{overlap}
use Rattle.view_sort.proofs.agreed.any_overlap.Given as goal

abbrev pub invariant-loop-i : goal.invariant-loop-i
invariant-loop-i l = list_any (λ e. overlap l.rule.0 e.0) (drop l.i l.rules) ≡ list_any (λ e. overlap l.rule.0 e.0) l.rules
