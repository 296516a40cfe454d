use Rattle.std.proofs.Common.{◌≡◌, ◌⊎◌, subst, []}
use Rattle.shred_cols.specs.Adds.{Adds, OfKept}
use Rattle.shred_cols.specs.declared.entry.Entry.TheVariants as v
use Rattle.shred_cols.proofs.Adding.{adds_apart, adds_then}
use Rattle.shred_cols.proofs.spread.add_sorted.Goals as goal

pub returns : goal.returns
returns c =
    adds_apart c.args.entries.now.items c.add_has.new.entries.items c.sort_unstable.new.self.items c.append.new.self.items (λ e. OfKept c.args.path.now c.args.inside.now e ⊎ (e ≡ v.Has c.args.path.now c.args.kept.now))
    (adds_then [] c.add_each.new.entries.items c.add_has.new.entries.items (λ e. OfKept c.args.path.now c.args.inside.now e) (λ e. e ≡ v.Has c.args.path.now c.args.kept.now)
    (subst (λ l. Adds l c.add_each.new.entries.items (λ e. OfKept c.args.path.now c.args.inside.now e)) c.new-run.ensures.items c.in_ok-add_each.ensures) c.in_ok-add_has.ensures)
    c.sort_unstable.ensures.permutation c.in_ok-append.ensures.items
