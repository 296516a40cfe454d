use Rattle.std.proofs.Common.{Option, Some, None, refl, MatchOption, IsSome}
use Rattle.json_tree.specs.Tree.{Tree}
use Rattle.json_tree.specs.Id.{IsId}
use Rattle.json_tree.specs.Doc.{id_in}
use Rattle.json_tree.specs.View.{tree}
use Rattle.cmd_tasks.proofs.insertions.prepared.Goals as goal

some_id : (o : Option Tree) → MatchOption o ⊥ IsId → IsSome o
some_id None h = absurd h
some_id (Some x) h = refl

pub of_value-requires-clause-id : goal.of_value-requires-clause-id
of_value-requires-clause-id c = some_id (id_in (tree c.args.document)) c.requires.document.id
