use Rattle.std.proofs.Common.{◌<◌, ◌≤◌, ◌∙◌, ap, sym, arith, length}
use Rattle.json_tree.specs.Members.{revalue, place_of}
use Rattle.json_tree.specs.View.{tree}
use Rattle.json_tree.proofs.Names.{put_within, put_last}
use Rattle.json_tree.proofs.Places.{places-revalue}
use Rattle.json_tree.proofs.builder.ObjectBuilder.put.Goals as goal

pub invariant_of-self : goal.invariant_of-self
invariant_of-self c = rw c.swap_in.ensures.new (places-revalue (λ m. m.value) c.self.inside.places c.self.inside.members c.place-place.result (tree c.args.value) c.self.invariant)

pub returns-then-place-len-clause-ok : goal.returns-then-place-len-clause-ok
returns-then-place-len-clause-ok c =
    let at = c.place-place.ensures ∙ ap (λ n. place_of n c.args.self.now) c.as_str.ensures in
    let within : place_of c.args.name c.args.self.now < length c.args.self.now = omega (arith, at, ap length c.self.view_is) in
    c.swap_in.ensures.new ∙ (λ i. revalue (c.self.view_is i) (at i) (tree c.args.value)) ∙ sym (put_within c.args.name (tree c.args.value) c.args.self.now within)

pub returns-clause-ok : goal.returns-clause-ok
returns-clause-ok c =
    let at = c.place-place.ensures ∙ ap (λ n. place_of n c.args.self.now) c.as_str.ensures in
    let past : length c.args.self.now ≤ place_of c.args.name c.args.self.now = omega (arith, at, ap length c.self.view_is) in
    rw (put_last c.args.name (tree c.args.value) c.args.self.now past) c.add.ensures.ok
