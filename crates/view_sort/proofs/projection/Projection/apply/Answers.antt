use Rattle.std.proofs.Common.{sym, ◌∙◌, ap, arith}
use Rattle.json_tree.specs.View.{tree}
use Rattle.view_sort.proofs.WholeViews.{view_whole, no_rules}
use Rattle.view_sort.proofs.projection.Projection.apply.Goals as goal

pub returns-then-is_empty-clause-ok : goal.returns-then-is_empty-clause-ok
returns-then-is_empty-clause-ok c =
    let rules = c.self.inside.rules in
    let none = no_rules rules.items rules.len c.is_empty.result (omega (arith, rules.ok.0)) c.is_empty.ensures c.if-is_empty.true in
    view_whole c.args.self.now c.args.doc.now (tree c.in_ok-try_copy.field-0) (sym c.self.view_is ∙ none) (ap tree c.in_ok-try_copy.ensures.ok ∙ c.value.ensures.value)
