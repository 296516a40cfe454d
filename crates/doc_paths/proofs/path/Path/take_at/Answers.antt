use Rattle.std.proofs.Common.{◌∙◌, ap}
use Rattle.json_tree.specs.View.{tree}
use Rattle.doc_paths.specs.Text.{parts}
use Rattle.doc_paths.specs.At.{at}
use Rattle.doc_paths.specs.Change.{without}
use Rattle.doc_paths.proofs.Shows.{take_others}
use Rattle.doc_paths.proofs.path.Path.take_at.Goals as goal

pub returns-clause-others : goal.returns-clause-others
returns-clause-others c = λ other apart.
    ap (λ t. at t other) (c.take_parts.ensures.left ∙ ap (λ w. without (tree c.args.value.now) (parts w)) c.text.ensures.value) ∙ take_others (parts c.args.self.now) (tree c.args.value.now) other apart
