use Rattle.update_ops.proofs.UnderId.{put_behind}
use Rattle.cmd_grammar.proofs.stand_in.under_stand_in.Goals as goal

pub loop-i-preserved : goal.loop-i-preserved
loop-i-preserved c = put_behind _ c.args.members.now _ _ c.loop-i.i _ _ _ c.requires c.by_type.ensures.distinct c.in-Some.ensures c.as_str.ensures c.loop-i.invariant c.in_ok-put_copy.ensures.ok
