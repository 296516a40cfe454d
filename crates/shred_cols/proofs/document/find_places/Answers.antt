use Rattle.std.proofs.Common.{ap, []}
use Rattle.json_tree.specs.Tree.{object, members_of}
use Rattle.json_tree.specs.View.{tree}
use Rattle.shred_cols.proofs.Walked.{below_is}
use Rattle.shred_cols.proofs.document.find_places.Goals as goal

pub returns : goal.returns
returns c = below_is c.add_members.result c.args.places.now.items c.add_members.new.places.items [] (object (members_of c.in-Object.members)) (tree c.args.value.now) (ap tree c.in-Object.is) c.add_members.ensures
