use Rattle.std.proofs.Common.{Some, None, ◌++◌, ◌∷◌, []}
use Rattle.json_tree.specs.Tree.{null}
use Rattle.update_ops.specs.Clauses.{unset}
use Rattle.update_ops.proofs.Twice.{was_made, taken}
use Rattle.update_ops.proofs.laws.unsets_are_seen.Goals as goal

pub returns-clause-member : goal.returns-clause-member
returns-clause-member c =
    λ path x d new moment on_insert front part ms is there distinct h.
    taken path d new moment on_insert (front ++ part ∷ []) is (was_made path unset d new moment on_insert h) None (c.takes_are_seen.ensures.member d front part ms there distinct)

pub returns-clause-element : goal.returns-clause-element
returns-clause-element c =
    λ path x d new y moment on_insert front part ts is there at h.
    taken path d new moment on_insert (front ++ part ∷ []) is (was_made path unset d new moment on_insert h) (Some null) (c.takes_are_seen.ensures.element d front part ts y there at)
