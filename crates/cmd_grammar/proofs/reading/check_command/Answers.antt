use Rattle.json_tree.specs.View.{tree}
use Rattle.cmd_grammar.specs.Judged.{AreParts}
use Rattle.cmd_grammar.proofs.Judging.{fields_fire, paging_fires, limits_fire, parts_decide}
use Rattle.cmd_grammar.proofs.reading.check_command.Goals as goal

pub returns-in-Err-clause-answers : goal.returns-in-Err-clause-answers
returns-in-Err-clause-answers c = fields_fire c.args.name (tree c.args.command.now) c.in-Err.fault c.in-Err.ensures

pub returns-in-Err-check_paging-clause-answers : goal.returns-in-Err-check_paging-clause-answers
returns-in-Err-check_paging-clause-answers c = paging_fires c.args.name (tree c.args.command.now) c.in-Err-check_paging.fault c.in-Ok.ensures.0 c.in-Err-check_paging.ensures

pub returns-in-Err-check_limits-clause-answers : goal.returns-in-Err-check_limits-clause-answers
returns-in-Err-check_limits-clause-answers c = limits_fire c.args.name (tree c.args.command.now) c.in-Err-check_limits.fault c.in-Ok.ensures.0 c.in-Ok-check_paging.ensures.0 c.in-Err-check_limits.ensures

pub returns-in-Ok-check_limits-clause-answers : goal.returns-in-Ok-check_limits-clause-answers
returns-in-Ok-check_limits-clause-answers c =
    parts_decide (AreParts (tree c.args.command.now)) c.args.name (tree c.args.command.now) c.read_parts.result c.in-Ok.ensures.0 c.in-Ok-check_paging.ensures.0 c.in-Ok-check_limits.ensures.0 c.read_parts.ensures.answers
