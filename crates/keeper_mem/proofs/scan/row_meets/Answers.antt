use Rattle.std.proofs.Common.{◌∙◌}
use Rattle.keeper_mem.proofs.scan.row_meets.Goals as goal

pub returns : goal.returns
returns c = c.meets.ensures ∙ c.probes_ask_documents.ensures c.args.row.now.doc c.columns.result.now c.args.probe.now c.columns.ensures
