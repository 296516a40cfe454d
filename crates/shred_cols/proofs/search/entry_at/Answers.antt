use Rattle.std.proofs.Common.{sym, ◌∙◌, None, []}
use Rattle.shred_cols.specs.Search.{is_before}
use Rattle.shred_cols.proofs.Seeking.{Found, no_entry, other_entry, entry_is, got, past_all}
use Rattle.shred_cols.proofs.search.entry_at.Goals as goal

pub returns-in_default-clause-none : goal.returns-in_default-clause-none
returns-in_default-clause-none c =
    let es = c.args.entries.now in
    let f : Found es c.seek-place.result (is_before c.args.column c.args.path.now None []) = record { within = c.seek-place.ensures.within; before = c.seek-place.ensures.before; after = c.seek-place.ensures.after } in
    no_entry es c.seek-place.result c.args.column c.args.path.now f (past_all es c.seek-place.result c.in_default.ensures)

pub returns-then-is_at-clause-found : goal.returns-then-is_at-clause-found
returns-then-is_at-clause-found c =
    let es = c.args.entries.now in
    let g = got es c.seek-place.result c.in-Some.entry.now c.in-Some.ensures in
    entry_is es c.seek-place.result c.args.column c.args.path.now c.in-Some.entry.now g.0 g.1 (sym c.is_at.ensures ∙ c.if-is_at.true)

pub returns-clause-none : goal.returns-clause-none
returns-clause-none c =
    let es = c.args.entries.now in
    let f : Found es c.seek-place.result (is_before c.args.column c.args.path.now None []) = record { within = c.seek-place.ensures.within; before = c.seek-place.ensures.before; after = c.seek-place.ensures.after } in
    let g = got es c.seek-place.result c.in-Some.entry.now c.in-Some.ensures in
    other_entry es c.seek-place.result c.args.column c.args.path.now c.in-Some.entry.now c.requires.sorted f g.0 g.1 (sym c.is_at.ensures ∙ c.if-is_at.false)
