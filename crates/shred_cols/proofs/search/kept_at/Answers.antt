use Rattle.std.proofs.Common.{◌∙◌, ap, None, Some, pos, []}
use Rattle.std.specs.List.{list_any, list_all}
use Rattle.shred_cols.specs.Search.{is_before}
use Rattle.shred_cols.specs.Probe.{inside, is_kept_at}
use Rattle.shred_cols.specs.declared.probe.Probe.TheVariants as p
use Rattle.shred_cols.proofs.Seeking.{Found}
use Rattle.shred_cols.proofs.Runs.{ends_in_order, run_any, run_every}
use Rattle.shred_cols.proofs.search.kept_at.Goals as goal

pub part-requires : goal.part-requires
part-requires c =
    let f : Found c.args.entries.now c.seek-low.result (is_before 3 c.args.path.now None []) = record { within = c.seek-low.ensures.within; before = c.seek-low.ensures.before; after = c.seek-low.ensures.after } in
    let g : Found c.args.entries.now c.seek-high.result (is_before 3 c.args.path.now (Some (pos 2)) []) = record { within = c.seek-high.ensures.within; before = c.seek-high.ensures.before; after = c.seek-high.ensures.after } in
    (ends_in_order c.args.entries.now c.args.path.now c.seek-low.result c.seek-high.result f g, g.within)

pub returns-clause-asked : goal.returns-clause-asked
returns-clause-asked c =
    let f : Found c.args.entries.now c.seek-low.result (is_before 3 c.args.path.now None []) = record { within = c.seek-low.ensures.within; before = c.seek-low.ensures.before; after = c.seek-low.ensures.after } in
    let g : Found c.args.entries.now c.seek-high.result (is_before 3 c.args.path.now (Some (pos 2)) []) = record { within = c.seek-high.ensures.within; before = c.seek-high.ensures.before; after = c.seek-high.ensures.after } in
    λ k. ap (list_any (inside (p.Has c.args.path.now k))) c.part.ensures ∙ run_any c.args.entries.now c.args.path.now c.seek-low.result c.seek-high.result k f g (ends_in_order c.args.entries.now c.args.path.now c.seek-low.result c.seek-high.result f g)

pub returns-clause-only : goal.returns-clause-only
returns-clause-only c =
    let f : Found c.args.entries.now c.seek-low.result (is_before 3 c.args.path.now None []) = record { within = c.seek-low.ensures.within; before = c.seek-low.ensures.before; after = c.seek-low.ensures.after } in
    let g : Found c.args.entries.now c.seek-high.result (is_before 3 c.args.path.now (Some (pos 2)) []) = record { within = c.seek-high.ensures.within; before = c.seek-high.ensures.before; after = c.seek-high.ensures.after } in
    ap (list_all (is_kept_at c.args.path.now)) c.part.ensures ∙ run_every c.args.entries.now c.args.path.now c.seek-low.result c.seek-high.result f g (ends_in_order c.args.entries.now c.args.path.now c.seek-low.result c.seek-high.result f g)
