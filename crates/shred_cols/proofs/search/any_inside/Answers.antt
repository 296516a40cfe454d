use Rattle.std.proofs.Common.{◌+◌, ◌∙◌, sym, ap, subst}
use Rattle.std.specs.List.{list_any}
use Rattle.shred_cols.specs.Probe.{inside}
use Rattle.shred_cols.specs.Starts.{IsStart}
use Rattle.shred_cols.proofs.Scanned.{run_asked}
use Rattle.shred_cols.proofs.search.any_inside.Goals as goal

pub returns-then-back-front-le-SHORT : goal.returns-then-back-front-le-SHORT
returns-then-back-front-le-SHORT c =
    let es = c.args.entries.now in
    let back = subst (λ n. IsStart (n + 1) es c.back-back.result) (c.column-2.ensures ∙ sym c.column.ensures) c.back-back.ensures in
    c.any_of.ensures ∙ ap (list_any (inside c.args.probe.now)) c.part.ensures
    ∙ run_asked c.args.probe.now es c.column.result c.front-front.result c.back-back.result c.column.ensures c.front-front.ensures back c.if-front-back.true
