use Rattle.std.proofs.Common.{ap, Some, None}
use Rattle.json_tree.specs.View.{tree}
use Rattle.cmd_grammar.proofs.Inside.{id_is}
use Rattle.cmd_grammar.proofs.Tested.{sized_alone, sized_standing}
use Rattle.cmd_grammar.proofs.documents.check_sizes.Goals as goal

pub returns-in-None : goal.returns-in-None
returns-in-None c =
    sized_standing (tree c.args.document.now) c.in-Object.members c.check_standing.result (ap tree c.in-Object.is)
    (id_is (tree c.args.document.now) c.in-Object.members None (ap tree c.in-Object.is) c.in-None.ensures) c.check_standing.ensures

pub returns-in-Some : goal.returns-in-Some
returns-in-Some c =
    sized_alone (tree c.args.document.now) c.check_value-in-Some.result (tree c.in-Some.field-0.now)
    (id_is (tree c.args.document.now) c.in-Object.members (Some (tree c.in-Some.field-0.now)) (ap tree c.in-Object.is) c.in-Some.ensures) c.check_value-in-Some.ensures
