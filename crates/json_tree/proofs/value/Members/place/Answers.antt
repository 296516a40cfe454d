use Rattle.std.proofs.Common.{◌∙◌, sym, arith, ap}
use Rattle.json_tree.specs.Members.{place_of}
use Rattle.std.specs.Str.{bytes_eq}
use Rattle.json_tree.proofs.Names.{place_more, place_here}
use Rattle.json_tree.proofs.value.Members.place.Goals as goal

pub returns-then-eq-clause-value : goal.returns-then-eq-clause-value
returns-then-eq-clause-value c =
    place_here c.args.name.now c.self.inside.pairs.items c.loop-i.i c.index.result.now (omega arith) c.index.ensures (ap (λ a. bytes_eq a c.args.name.now) (sym c.as_str.ensures) ∙ sym c.if-eq.ensures) c.loop-i.invariant ∙ ap (place_of c.args.name.now) c.self.view_is

pub loop-i-preserved : goal.loop-i-preserved
loop-i-preserved c = place_more c.args.name.now c.self.inside.pairs.items c.loop-i.i c.index.result.now (omega arith) c.index.ensures (ap (λ a. bytes_eq a c.args.name.now) (sym c.as_str.ensures) ∙ sym c.eq.ensures ∙ c.if-eq.false) c.loop-i.invariant
