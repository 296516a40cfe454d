use Rattle.std.proofs.Common.{codes, not, sym, ◌∙◌, ap}
use Rattle.filter_tree.specs.Matches.{matches}
use Rattle.filter_tree.specs.Reads.{filter_in}
use Rattle.filter_tree.specs.Finds.{just}
use Rattle.filter_tree.proofs.Written.{on_path, and_true}
use Rattle.filter_tree.proofs.laws.contraries.Goals as goal

pub returns-clause-ne : goal.returns-clause-ne
returns-clause-ne c = λ name x d h. on_path name (just (codes "$ne") x) d h ∙ ap not (sym (on_path name (just (codes "$eq") x) d h))

pub returns-clause-nin : goal.returns-clause-nin
returns-clause-nin c = λ name x d h. on_path name (just (codes "$nin") x) d h ∙ ap not (sym (on_path name (just (codes "$in") x) d h))

pub returns-clause-negated : goal.returns-clause-negated
returns-clause-negated c = λ filter d. and_true (not (matches (filter_in filter) d))
