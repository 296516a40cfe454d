use Rattle.std.proofs.Common.{ap, ◌∙◌}
use Rattle.json_tree.specs.View.{tree}
use Rattle.cmd_grammar.proofs.Inside.{member_is}
use Rattle.cmd_grammar.proofs.members.take_member.Goals as goal

pub returns-in-Object : goal.returns-in-Object
returns-in-Object c = c.remove.ensures.old ∙ member_is c.args.name.now (tree c.args.value) c.in-Object.members (ap tree c.in-Object.is)
