use Rattle.std.proofs.Common.{◌∙◌}
use Rattle.json_tree.proofs.Docs.{has_id}
use Rattle.json_tree.proofs.value.Value.has_id_member.Goals as goal

pub returns-in-Object : goal.returns-in-Object
returns-in-Object c = c.is_some.ensures ∙ has_id _ c.args.self.now c.in-Object.members c.get.result c.in-Object.is c.get.ensures
