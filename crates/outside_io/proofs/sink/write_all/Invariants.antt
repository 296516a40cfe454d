use Rattle.std.proofs.Common.{◌≡◌, ◌≤◌, ◌-◌, length, take}
use Rattle.outside_io.specs.Told.{Takes, CountsGrow}
use Rattle.outside_io.proofs.sink.write_all.Given as goal

abbrev pub invariant-loop-taken : goal.invariant-loop-taken
invariant-loop-taken g l = let sink = g.W.Sink in record {
  within : l.taken ≤ length l.piece;
  appended : Takes (sink.writing l.fn.sink) (take l.taken l.piece) (sink.writing l.sink);
  grows : CountsGrow (sink.writing l.fn.sink) (sink.writing l.sink);
  leaves : sink.reading l.sink ≡ sink.reading l.fn.sink;
}

abbrev pub decreases-loop-taken : goal.decreases-loop-taken
decreases-loop-taken g l = length l.piece - l.taken
