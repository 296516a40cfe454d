use Rattle.std.proofs.Common.{◌-◌, ◌≡◌, ◌*◌, ◌^◌, ◌≤◌}
use Rattle.json_tree.proofs.decimal.split_zeros.Given as goal

abbrev pub invariant-zeros : goal.invariant-zeros
invariant-zeros l = record { whole : l.left * 10 ^ l.taken ≡ l.magnitude; most : l.taken ≤ 18 }

abbrev pub decreases-zeros : goal.decreases-zeros
decreases-zeros l = 18 - l.taken
