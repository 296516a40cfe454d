use Rattle.std.proofs.Common.{Some, None, sym, ap, ◌∙◌}
use Rattle.json_tree.specs.Tree.{Tree, object, members_of}
use Rattle.json_tree.specs.View.{tree}
use Rattle.update_ops.specs.Apply.{within_limits}
use Rattle.update_ops.specs.Upsert.{with_id}
use Rattle.update_ops.proofs.Idle.{gives_as}
use Rattle.update_ops.proofs.UnderId.{own_document, own_is_id, own_of}
use Rattle.update_ops.proofs.inserting.inserted_under.Goals as goal

pub under_given-requires : goal.under_given-requires
under_given-requires c =
    own_document c.args.members.now (tree c.in-Some.own.now) c.in-Some.ensures (own_is_id c.args.members.now (tree c.in-Some.own.now) c.in-Some.ensures c.requires.own) c.requires.names

pub returns-in-Some : goal.returns-in-Some
returns-in-Some c = gives_as (λ (d : Tree). d) c.under_given.result _ _ (sym (own_of c.args.members.now _ _ _ c.in-Some.ensures)) c.under_given.ensures

pub returns-in-None : goal.returns-in-None
returns-in-None c =
    gives_as (λ (d : Tree). d) c.under_id.result _ _
    (ap (λ u. within_limits (with_id u (object (members_of c.args.members.now)))) c.chosen.ensures.value ∙ sym (own_of c.args.members.now _ _ _ c.in-None.ensures)) c.under_id.ensures
