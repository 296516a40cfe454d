use Rattle.std.proofs.Common.{None}
use Rattle.cmd_tasks.specs.Doing.{makes, updates, deletes}
use Rattle.cmd_tasks.specs.Jobs.{upsert_id}
use Rattle.cmd_tasks.proofs.Telling.{many_taken}
use Rattle.cmd_tasks.proofs.laws.each_match_is_counted.Goals as goal

pub returns-clause-updated : goal.returns-clause-updated
returns-clause-updated c base history coll k moment ids f u upsert page trace reply sorted served = many_taken base coll k f (makes (updates u moment) (upsert_id upsert ids)) page history sorted trace reply served

pub returns-clause-deleted : goal.returns-clause-deleted
returns-clause-deleted c base history coll k moment ids f trace reply sorted served = many_taken base coll k f deletes None history sorted trace reply served
