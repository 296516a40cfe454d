use Rattle.std.proofs.Common.{◌∙◌}
use Rattle.shred_cols.proofs.Seeking.{found_for, one_asked, none_asked, got, past_all}
use Rattle.shred_cols.proofs.search.any_found.Goals as goal

pub returns-in-Some : goal.returns-in-Some
returns-in-Some c =
    let es = c.args.entries.now in
    let f = found_for c.args.probe.now es c.seek-place.result c.column.result c.path_text.result.now c.low_bytes.result.now c.low_number.result c.column.ensures c.path_text.ensures c.low_number.ensures c.low_bytes.ensures c.seek-place.ensures.within c.seek-place.ensures.before c.seek-place.ensures.after in
    let g = got es c.seek-place.result c.in-Some.entry.now c.in-Some.ensures in
    c.inside.ensures ∙ one_asked c.args.probe.now es c.seek-place.result c.in-Some.entry.now c.requires.sorted f g.0 g.1

pub returns-in-None : goal.returns-in-None
returns-in-None c =
    let es = c.args.entries.now in
    let f = found_for c.args.probe.now es c.seek-place.result c.column.result c.path_text.result.now c.low_bytes.result.now c.low_number.result c.column.ensures c.path_text.ensures c.low_number.ensures c.low_bytes.ensures c.seek-place.ensures.within c.seek-place.ensures.before c.seek-place.ensures.after in
    none_asked c.args.probe.now es c.seek-place.result f (past_all es c.seek-place.result c.in-None.ensures)
