use Rattle.cmd_tasks.specs.Ids.{stream_of_ids}
use Rattle.cmd_tasks.proofs.Drawing.{AreReady}
use Rattle.cmd_tasks.proofs.first.all_under_next.Given as goal

abbrev pub invariant-loop-i : goal.invariant-loop-i
invariant-loop-i l = AreReady l.fn.documents (stream_of_ids l.fn.ids) l.i l.documents (stream_of_ids l.ids) l.all
