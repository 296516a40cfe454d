use Rattle.std.proofs.Common.{Some, None}
use Rattle.json_tree.specs.View.{tree}
use Rattle.json_tree.specs.Doc.{id_in}
use Rattle.json_tree.proofs.Docs.{id_there, no_id_there, id_given, id_refused}
use Rattle.json_tree.proofs.doc.id_of.Goals as goal

pub unreachable-requires : goal.unreachable-requires
unreachable-requires c = no_id_there (id_in (tree c.args.value.now)) c.requires (id_there c.args.value.now c.in-Object.members None c.in-Object.is c.in-None.ensures)

pub returns-clause-ok : goal.returns-clause-ok
returns-clause-ok c =
    id_given (tree c.args.value.now) (tree c.in-Some.id.now) c.of_value.result (id_there c.args.value.now c.in-Object.members (Some (tree c.in-Some.id.now)) c.in-Object.is c.in-Some.ensures) c.of_value.ensures.ok

pub returns-clause-err : goal.returns-clause-err
returns-clause-err c =
    id_refused (tree c.args.value.now) (tree c.in-Some.id.now) c.of_value.result (id_there c.args.value.now c.in-Object.members (Some (tree c.in-Some.id.now)) c.in-Object.is c.in-Some.ensures)
    c.of_value.ensures.err
