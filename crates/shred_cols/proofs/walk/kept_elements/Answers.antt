use Rattle.std.proofs.Common.{◌++◌, ◌∷◌, [], ap, sym, ◌∙◌, arith, map}
use Rattle.std.proofs.lemmas.List.{take_all}
use Rattle.json_tree.specs.View.{tree}
use Rattle.shred_cols.specs.Entry.{kept_of}
use Rattle.shred_cols.proofs.Adding.{taken_more}
use Rattle.shred_cols.proofs.walk.kept_elements.Goals as goal

pub loop-i-preserved : goal.loop-i-preserved
loop-i-preserved c =
    c.in_ok-push.ensures.items ∙ ap (λ k. c.loop-i.inside.items ++ k ∷ []) c.in_ok-kept_by.ensures.ok
    ∙ taken_more kept_of c.loop-i.inside.items c.args.items.now c.loop-i.i (tree c.in-Some.value.now) (sym c.in-Some.ensures) c.loop-i.invariant

pub returns : goal.returns
returns c = record { ok = c.loop-i.invariant ∙ ap (map kept_of) (take_all c.loop-i.i c.args.items.now (omega arith)) }
