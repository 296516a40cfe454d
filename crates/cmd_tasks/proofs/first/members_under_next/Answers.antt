use Rattle.json_tree.specs.View.{tree}
use Rattle.cmd_tasks.specs.Ids.{stream_of_ids}
use Rattle.cmd_tasks.proofs.Drawing.{stays_told, stays_drawn, gets_told, gets_drawn}
use Rattle.cmd_tasks.proofs.first.members_under_next.Goals as goal

pub returns-then-is_some-clause-told : goal.returns-then-is_some-clause-told
returns-then-is_some-clause-told c = stays_told (λ v. tree v.now) c.get.result c.args.members (stream_of_ids c.args.ids.now) c.get.ensures c.if-is_some.ensures

pub returns-then-is_some-clause-after : goal.returns-then-is_some-clause-after
returns-then-is_some-clause-after c = stays_drawn (λ v. tree v.now) c.get.result c.args.members (stream_of_ids c.args.ids.now) c.get.ensures c.if-is_some.ensures

pub returns-in-Ok-clause-told : goal.returns-in-Ok-clause-told
returns-in-Ok-clause-told c = gets_told (λ v. tree v.now) c.get.result c.args.members (stream_of_ids c.args.ids.now) c.in-Ok.id c.in_front.result c.get.ensures c.if-is_some.ensures c.in-Ok.ensures.id c.in_front.ensures

pub returns-in-Ok-clause-after : goal.returns-in-Ok-clause-after
returns-in-Ok-clause-after c = gets_drawn (λ v. tree v.now) c.get.result c.args.members (stream_of_ids c.args.ids.now) _ c.get.ensures c.if-is_some.ensures c.in-Ok.ensures.after

pub returns-in-Err-clause-after : goal.returns-in-Err-clause-after
returns-in-Err-clause-after c = gets_drawn (λ v. tree v.now) c.get.result c.args.members (stream_of_ids c.args.ids.now) _ c.get.ensures c.if-is_some.ensures c.in-Err.ensures.after
