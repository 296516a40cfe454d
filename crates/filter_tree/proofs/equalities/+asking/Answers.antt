use Rattle.std.proofs.Common.{OnOk, ◌≡◌, ◌++◌, List, ℕ, map, subst, sym, ap, ◌∙◌}
use Rattle.std.specs.List.{flat_map}
use Rattle.json_tree.specs.Tree.{Tree}
use Rattle.filter_tree.specs.View.{filter_tree, equality_of}
use Rattle.filter_tree.specs.Equalities.{equalities}
use Rattle.filter_tree.proofs.Folds.{asked_all}
use Rattle.filter_tree.proofs.equalities.+asking.Goals as goal

pub ask-returns-in-All-clause-ok : goal.ask-returns-in-All-clause-ok
ask-returns-in-All-clause-ok t c =
    subst (λ (asked : List (List ℕ × Tree)). OnOk c.ask_all.result (map equality_of c.ask_all.new.found.items ≡ map equality_of c.args.found.now.items ++ asked))
    (ap (flat_map (λ f. equalities (filter_tree f))) c.as_slice.ensures ∙ sym (asked_all c.in-All.filters) ∙ ap (λ f. equalities (filter_tree f)) (sym c.in-All.is))
    c.ask_all.ensures.ok
