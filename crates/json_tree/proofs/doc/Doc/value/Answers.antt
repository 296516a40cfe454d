use Rattle.std.proofs.Common.{subst, ap, ◌∙◌}
use Rattle.json_tree.specs.View.{tree}
use Rattle.json_tree.specs.Doc.{has_dollar_name}
use Rattle.json_tree.specs.Writable.{IsWritable}
use Rattle.json_tree.specs.Writables.{writable, no_date_object}
use Rattle.json_tree.proofs.doc.Doc.value.Goals as goal

pub returns-clause-writable : goal.returns-clause-writable
returns-clause-writable c =
    let is = ap (λ x. tree x.value) c.deref.ensures in
    subst IsWritable (is ∙ c.self.view_is) (writable (tree c.deref.result.now.value) c.by_type.ensures (no_date_object (tree c.deref.result.now.value) (ap has_dollar_name is ∙ c.self.invariant.0.names)))
