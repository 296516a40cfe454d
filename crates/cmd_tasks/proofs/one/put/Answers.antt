use Rattle.cmd_tasks.specs.Served.{sights}
use Rattle.cmd_tasks.proofs.Placings.{put_steps, put_leads}
use Rattle.cmd_tasks.proofs.one.put.Goals as goal

pub returns-clause-steps : goal.returns-clause-steps
returns-clause-steps g c = put_steps c.args.by _ _ _ _ c.args.one c.args.doc c.args.reply c.put_in_place.result c.put_in_place.ensures.puts

pub returns-clause-leads : goal.returns-clause-leads
returns-clause-leads g c = λ base told_base trace placed way. put_leads base c.args.coll.now c.args.by c.args.one c.args.doc c.args.reply c.put_in_place.new.store.journal (sights c.args.store.now.journal trace) way c.put_in_place.result (c.put_in_place.ensures.told base told_base)
