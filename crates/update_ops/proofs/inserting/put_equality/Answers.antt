use Rattle.std.proofs.Common.{sym}
use Rattle.json_tree.specs.View.{tree}
use Rattle.update_ops.proofs.Asked.{put_gives}
use Rattle.update_ops.proofs.inserting.put_equality.Goals as goal

pub returns-in-Ok-clause-document : goal.returns-in-Ok-clause-document
returns-in-Ok-clause-document c =
    put_gives c.args.equality.path.now (tree c.args.equality.operand.now) (tree c.in-Ok.operand) (tree c.args.value.now) (tree c.put_into.new.value) c.put_into.result
    c.text-path.ensures.path (sym c.if-is_of_id.ensures) (sym c.if-not-is_storable.ensures) c.in-Ok.ensures.ok c.put_into.ensures
