use Rattle.std.proofs.Common.{refl, subst}
use Rattle.std.specs.List.Sorted.{IsStrictlySortedBy}
use Rattle.shred_cols.specs.Order.{entry_cmp}
use Rattle.shred_cols.proofs.Sorted.{strictly_sorted, sorted_once}
use Rattle.shred_cols.proofs.document.arrange.Goals as goal

pub returns-then-ascend-clause-ordered : goal.returns-then-ascend-clause-ordered
returns-then-ascend-clause-ordered c = subst (IsStrictlySortedBy entry_cmp) c.as_slice.ensures.value (c.if-ascend.ensures.0 refl)

pub returns-clause-ordered : goal.returns-clause-ordered
returns-clause-ordered c = strictly_sorted c.sort_unstable.new.self.items c.dedup.new.self.items c.sort_unstable.ensures.sorted c.dedup.ensures.filtered

pub returns-clause-same : goal.returns-clause-same
returns-clause-same c = sorted_once _ c.sort_unstable.new.self.items c.dedup.new.self.items c.sort_unstable.ensures.permutation c.dedup.ensures.filtered
