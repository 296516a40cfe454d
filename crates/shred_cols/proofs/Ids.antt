-- The id of a document.
use Rattle.std.proofs.Common.{◌≡◌, Some, ap, sym, subst}
use Rattle.std.specs.Prelude.{unwrap_or, MatchOption}
use Rattle.json_tree.specs.Tree.{Tree, null}
use Rattle.json_tree.specs.Doc.{IsDocument, id_in}
use Rattle.json_tree.specs.Id.{IsId}
use Rattle.shred_cols.specs.Row.{id_of}

pub id_value : (d id : Tree) → id_in d ≡ Some id → id ≡ id_of d
id_value d id p = sym (ap (λ o. unwrap_or o null) p)

pub id_is : (d id : Tree) → IsDocument d → id_in d ≡ Some id → IsId (id_of d)
id_is d id doc p = subst IsId (id_value d id p) (subst (λ o. MatchOption o ⊥ IsId) p doc.id)

pub ruleset document_id = (id_value, id_is)
