use Rattle.std.proofs.Common.{arith}
use Rattle.json_tree.specs.View.{tree, pair_of}
use Rattle.json_tree.proofs.Lists.{agree_at}
use Rattle.json_tree.proofs.value.+same.Goals as goal

-- src/value.rt:167:17
pub Items::same-returns-then-not-agrees : goal.Items::same-returns-then-not-agrees
Items::same-returns-then-not-agrees t c =
    (λ h. absurd (Prim.cc h), λ e. c.if-not-agrees.ensures.1 (agree_at tree _ _ c.loop-i.i _ _ (omega arith) (omega arith) c.index.ensures c.index-in-loop-i.ensures (rw (c.self.view_is, c.other.view_is) e)))

-- src/value.rt:187:17
pub Members::same-returns-then-not-same_pair : goal.Members::same-returns-then-not-same_pair
Members::same-returns-then-not-same_pair t c =
    (λ h. absurd (Prim.cc h), λ e. c.if-not-same_pair.ensures.1 (agree_at pair_of _ _ c.loop-i.i _ _ (omega arith) (omega arith) c.index.ensures c.index-in-loop-i.ensures (rw (c.self.view_is, c.other.view_is) e)))
