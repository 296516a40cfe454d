use Rattle.json_tree.proofs.Alike.{same-Decides}
use Rattle.json_tree.proofs.laws.same_decides.Goals as goal

pub returns : goal.returns
returns c = same-Decides
