use Rattle.std.proofs.Common.{◌∙◌, refl}
use Rattle.shred_cols.specs.declared.probe.Probe.TheVariants as p
use Rattle.shred_cols.proofs.Seeking.{found_for, one_asked, none_asked, got, past_all}
use Rattle.shred_cols.proofs.search.any_keeps.Goals as goal

pub returns-in-Some : goal.returns-in-Some
returns-in-Some c =
    let es = c.args.entries.now in
    let q = p.Has c.args.path.now c.args.kept.now in
    let f = found_for q es c.seek-place.result 3 c.text.result.now c.bytes.result.now c.number.result refl c.text.ensures.value c.number.ensures c.bytes.ensures c.seek-place.ensures.within c.seek-place.ensures.before c.seek-place.ensures.after in
    let g = got es c.seek-place.result c.in-Some.entry.now c.in-Some.ensures in
    c.keeps.ensures ∙ one_asked q es c.seek-place.result c.in-Some.entry.now c.requires.sorted f g.0 g.1

pub returns-in-None : goal.returns-in-None
returns-in-None c =
    let es = c.args.entries.now in
    let q = p.Has c.args.path.now c.args.kept.now in
    let f = found_for q es c.seek-place.result 3 c.text.result.now c.bytes.result.now c.number.result refl c.text.ensures.value c.number.ensures c.bytes.ensures c.seek-place.ensures.within c.seek-place.ensures.before c.seek-place.ensures.after in
    none_asked q es c.seek-place.result f (past_all es c.seek-place.result c.in-None.ensures)
