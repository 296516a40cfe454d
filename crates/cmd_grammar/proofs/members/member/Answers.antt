use Rattle.std.proofs.Common.{ap, ◌∙◌}
use Rattle.json_tree.specs.View.{tree}
use Rattle.cmd_grammar.proofs.Inside.{member_is}
use Rattle.cmd_grammar.proofs.members.member.Goals as goal

pub returns-in-Object : goal.returns-in-Object
returns-in-Object c = c.get.ensures ∙ member_is c.args.name.now (tree c.args.value.now) c.in-Object.members (ap tree c.in-Object.is)
