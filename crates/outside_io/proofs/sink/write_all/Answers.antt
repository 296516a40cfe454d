use Rattle.std.proofs.Common.{length, arith, take, drop, ap, sym, ◌∙◌, length-drop}
use Rattle.std.proofs.lemmas.List.{take_rest}
use Rattle.std.proofs.Math.Seq.{take-add}
use Rattle.outside_io.specs.Told.{taken_then, Takes-append, CountsGrow-then}
use Rattle.outside_io.proofs.sink.write_all.Goals as goal

pub loop-taken-preserved : goal.loop-taken-preserved
loop-taken-preserved g c =
    let first = g.W.Sink.writing c.args.sink.now in
    let middle = g.W.Sink.writing c.loop-taken.sink in
    let before = c.loop-taken.invariant in
    let now = c.in-Ok.ensures in
    let at = c.loop-taken.taken in
    let count = c.in-Ok.count in
    let piece = c.args.piece.now in
    let rest = ap (take count) (take_rest piece at) in
    record {
      within = omega (arith, now.count, ap length (take_rest piece at), length-drop at piece);
      appended =
          Takes-append first middle (g.W.Sink.writing c.write.new.self) (take at piece) (take count (drop at piece)) before.appended
          (now.appended ∙ ap (taken_then middle.taken) rest)
          ∙ ap (taken_then first.taken) (sym (take-add at count piece));
      grows = CountsGrow-then first middle (g.W.Sink.writing c.write.new.self) before.grows now.grows;
      leaves = now.leaves ∙ before.leaves;
    }
