use Rattle.std.proofs.Common.{sym, ◌∙◌, ◌-◌, length}
use Rattle.std.proofs.lemmas.Bool.{ltb-true}
use Rattle.json_tree.specs.View.{tree}
use Rattle.json_tree.specs.Same.{same}
use Rattle.update_ops.specs.View.{trees}
use Rattle.update_ops.proofs.Texts.{any_left, any_right}
use Rattle.update_ops.proofs.fresh.is_at.Goals as goal

pub returns-then-place-elements : goal.returns-then-place-elements
returns-then-place-elements c = λ e. any_left (λ t. same t (tree c.args.value.now)) c.args.elements.now (trees c.args.more.now) c.args.place _ c.if-place-elements.true c.index-elements-place.is (sym c.same.ensures.test ∙ e)

pub returns-in-Some : goal.returns-in-Some
returns-in-Some c =
    λ e. any_right (λ t. same t (tree c.args.value.now)) _ c.args.more.now (c.args.place - length c.args.elements.now) c.in-Some.other.now (ltb-true _ _ (sym c.in-Some.ensures.lookup.0)) c.in-Some.ensures.lookup.1 (sym c.same-in-Some.ensures.test ∙ e)
