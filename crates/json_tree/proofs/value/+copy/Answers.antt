use Rattle.std.proofs.Common.{◌∙◌, map, ap, arith}
use Rattle.std.proofs.lemmas.List.{map-append}
use Rattle.json_tree.specs.View.{tree, pair_of}
use Rattle.json_tree.proofs.Lists.{copied_more}
use Rattle.json_tree.proofs.value.+copy.Goals as goal

pub Items::try_copy-loop-i-preserved : goal.Items::try_copy-loop-i-preserved
Items::try_copy-loop-i-preserved t c =
    record {
      same = copied_more tree c.self.inside.items.items c.loop-i.i c.index.result.now _ _ _ (omega arith) c.index.ensures c.loop-i.invariant.same (ap tree c.in_ok-item.ensures.ok)
          (ap (map tree) c.push_reserved.ensures.items ∙ map-append tree c.loop-i.items.items _);
      count = omega (arith, c.push_reserved.ensures.len, c.loop-i.invariant.count);
      room = omega (arith, c.push_reserved.ensures.capacity, c.loop-i.invariant.room);
    }

pub Members::try_copy-loop-i-preserved : goal.Members::try_copy-loop-i-preserved
Members::try_copy-loop-i-preserved t c =
    record {
      same = copied_more pair_of c.self.inside.pairs.items c.loop-i.i c.index-pair.result.now _ _ (pair_of (c.in_ok-name.name, c.in_ok-value.value)) (omega arith) c.index-pair.ensures c.loop-i.invariant.same
          (λ i. (c.in_ok-name.ensures.ok i, tree (c.in_ok-value.ensures.ok i))) (ap (map pair_of) c.push_reserved.ensures.items ∙ map-append pair_of c.loop-i.pairs.items _);
      count = omega (arith, c.push_reserved.ensures.len, c.loop-i.invariant.count);
      room = omega (arith, c.push_reserved.ensures.capacity, c.loop-i.invariant.room);
    }
