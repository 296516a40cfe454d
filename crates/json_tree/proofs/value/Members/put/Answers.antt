use Rattle.std.proofs.Common.{◌∙◌, ap, sym, arith}
use Rattle.json_tree.specs.Members.{revalue, place_of}
use Rattle.json_tree.specs.View.{tree}
use Rattle.json_tree.proofs.Names.{put_within, put_last}
use Rattle.json_tree.proofs.value.Members.put.Goals as goal

pub returns-then-place-len-clause-ok : goal.returns-then-place-len-clause-ok
returns-then-place-len-clause-ok c =
    let at = c.place-place.ensures.value ∙ ap (λ n. place_of n c.args.self.now) c.as_str.ensures in
    c.swap_in.ensures.new ∙ ap (λ k. revalue c.args.self.now k (tree c.args.value)) at ∙ sym (put_within c.args.name (tree c.args.value) c.args.self.now (omega arith))

pub returns-clause-ok : goal.returns-clause-ok
returns-clause-ok c =
    let at = c.place-place.ensures.value ∙ ap (λ n. place_of n c.args.self.now) c.as_str.ensures in
    rw (put_last c.args.name (tree c.args.value) c.args.self.now (omega arith)) c.add.ensures.ok
