use Rattle.std.proofs.Common.{◌≡◌, map, drop}
use Rattle.json_tree.specs.View.{tree}
use Rattle.json_tree.specs.Doc.{IsDocument}
use Rattle.update_ops.specs.View.{equality_of}
use Rattle.update_ops.specs.Upsert.{put_equalities}
use Rattle.update_ops.proofs.inserting.put_equalities.Given as goal

abbrev pub invariant-loop-equality : goal.invariant-loop-equality
invariant-loop-equality l = record {
  put : put_equalities (map equality_of (drop l.equality-index l.equalities)) (tree l.value) ≡ put_equalities (map equality_of l.equalities) (tree l.fn.value);
  document : IsDocument (tree l.fn.value) → IsDocument (tree l.value);
}
