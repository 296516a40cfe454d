use Rattle.std.proofs.Common.{true, false, inr, refl, sym, ◌∙◌}
use Rattle.json_tree.specs.Tree.{Tree, object, members_of}
use Rattle.json_tree.specs.Id.{IsId}
use Rattle.json_tree.specs.View.{tree}
use Rattle.update_ops.proofs.Idle.{gives_as}
use Rattle.update_ops.proofs.UnderId.{own_document, same_id, replaced_own, replaced_under}
use Rattle.update_ops.proofs.replacing.replaced_by.Goals as goal

pub under_own_id-requires : goal.under_own_id-requires
under_own_id-requires c =
    own_document c.args.members.now (tree c.in-Some.own.now) c.in-Some.ensures (same_id (tree c.in-Some.own.now) _ _ (c.if-same.ensures.equal.0 refl) c.value.ensures.value c.value.ensures.id.0) c.requires

pub returns-then-same : goal.returns-then-same
returns-then-same c =
    gives_as (λ (d : Tree). d) c.under_own_id.result _ _
    (sym (replaced_own c.args.members.now c.args.doc.now (tree c.in-Some.own.now) _ (tree c.value.result.now) true c.in-Some.ensures c.id.ensures c.value.ensures.value c.if-same.ensures.test)) c.under_own_id.ensures

pub returns-else-same : goal.returns-else-same
returns-else-same c =
    inr (replaced_own c.args.members.now c.args.doc.now (tree c.in-Some.own.now) _ (tree c.value.result.now) false c.in-Some.ensures c.id.ensures c.value.ensures.value c.if-same.ensures.test)

pub returns-in-None : goal.returns-in-None
returns-in-None c =
    gives_as (λ (d : Tree). d) c.under_id.result _ _
    (sym (replaced_under c.args.members.now c.args.doc.now _ (tree c.value-in-None.result.now) c.in-None.ensures c.id-in-None.ensures c.value-in-None.ensures.value)) c.under_id.ensures
