use Rattle.std.proofs.Common.{subst}
use Rattle.json_tree.specs.View.{tree}
use Rattle.doc_paths.specs.Text.{parts}
use Rattle.doc_paths.specs.Change.{put, Changes}
use Rattle.doc_paths.proofs.Shows.{changes_there, changes_others}
use Rattle.doc_paths.proofs.path.Path.put_at.Goals as goal

made : (c : goal.After-put_parts) → Changes c.put_parts.result (put 0 (tree c.args.value.now) (parts c.args.self.now) (tree c.args.new)) (tree c.args.value.now) (tree c.put_parts.new.value)
made c = subst (λ w. Changes c.put_parts.result (put 0 (tree c.args.value.now) (parts w) (tree c.args.new)) (tree c.args.value.now) (tree c.put_parts.new.value)) c.text.ensures.value c.put_parts.ensures

pub returns-clause-there : goal.returns-clause-there
returns-clause-there c = changes_there c.put_parts.result (parts c.args.self.now) (tree c.args.value.now) (tree c.put_parts.new.value) (tree c.args.new) (made c)

pub returns-clause-others : goal.returns-clause-others
returns-clause-others c = changes_others c.put_parts.result (parts c.args.self.now) (tree c.args.value.now) (tree c.put_parts.new.value) (tree c.args.new) (made c)
