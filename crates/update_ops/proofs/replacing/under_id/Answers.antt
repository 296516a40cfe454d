use Rattle.json_tree.specs.View.{tree}
use Rattle.update_ops.proofs.UnderId.{same_document, under_document}
use Rattle.update_ops.proofs.replacing.under_id.Goals as goal

pub document-requires : goal.document-requires
document-requires c =
    same_document (tree c.in-Ok.value) _ c.in-Ok.ensures.ok (under_document (tree c.args.id.now) c.args.members.now c.requires.id c.requires.names)
