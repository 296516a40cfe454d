use Rattle.std.proofs.lemmas.Bool.Decides.{same_from_decides}
use Rattle.json_tree.specs.View.{tree}
use Rattle.json_tree.proofs.Alike.{same-Decides}
use Rattle.json_tree.proofs.value.Value.same.Goals as goal

pub returns-clause-test : goal.returns-clause-test
returns-clause-test c = same_from_decides _ _ c.agrees.ensures (same-Decides (tree c.args.self.now) (tree c.args.other.now))
