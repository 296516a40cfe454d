use Rattle.shred_cols.specs.declared.entry.Entry.TheVariants as v
use Rattle.shred_cols.proofs.Adding.{on_ok, renamed}
use Rattle.shred_cols.proofs.spread.add_has.Goals as goal

pub returns : goal.returns
returns c =
    on_ok c.add.result c.add.ensures
    (λ a. renamed c.args.entries.now.items c.add.new.entries.items (v.Has c.in_ok-try_copy.field-0 c.in_ok-try_copy-2.field-0) (v.Has c.args.path.now c.args.kept.now) (λ i. v.Has (c.in_ok-try_copy.ensures.ok i) (c.in_ok-try_copy-2.ensures.ok i)) a)
