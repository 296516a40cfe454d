use Rattle.std.proofs.Common.{true, w64, to_z, of_z, Ok, ap, map, refl, ◌∙◌}
use Rattle.json_tree.specs.View.{tree}
use Rattle.update_ops.specs.View.{clause_of, standing}
use Rattle.update_ops.proofs.Documents.{document_made}
use Rattle.update_ops.proofs.UnderId.{alone_document}
use Rattle.update_ops.proofs.inserting.inserted.Goals as goal

pub returns-in-Ok-Some-clause-document : goal.returns-in-Ok-Some-clause-document
returns-in-Ok-Some-clause-document c =
    document_made (map clause_of c.args.clauses.now) _ (tree c.put_equalities.new.value) _ (tree c.in-Ok-Some.new) (to_z w64 (of_z w64 c.args.moment)) true refl refl c.requires.safe
    (c.in-Ok-put_equalities.ensures.document (alone_document (tree c.args.id.now) (tree c.in-Ok.value) _ c.requires.id c.new.ensures c.in-Ok.ensures.ok))
    (c.in-Ok-Some.ensures ∙ ap (λ o. Ok (standing (tree c.put_equalities.new.value) o)) c.in-Ok-Some.field-0-is)
