use Rattle.json_tree.specs.View.{tree}
use Rattle.doc_limits.proofs.Totals.{answers}
use Rattle.doc_limits.proofs.limits.check.Goals as goal

pub returns : goal.returns
returns c = answers c.check_counts.result c.text_len.result c.counts_of.result (tree c.args.value.now) c.text_len.ensures c.counts_of.ensures c.check_counts.ensures
