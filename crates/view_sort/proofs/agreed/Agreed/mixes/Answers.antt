use Rattle.std.proofs.Common.{sym, ap, ◌∙◌}
use Rattle.view_sort.specs.Projection.{is_id}
use Rattle.view_sort.proofs.Mixing.{mixes_id, mixes_slice}
use Rattle.view_sort.proofs.agreed.Agreed.mixes.Goals as goal

pub returns-then-is_id : goal.returns-then-is_id
returns-then-is_id c = mixes_id c.args.rule.now c.args.self.now (ap (λ r. is_id r.0) (sym c.rule.view_is) ∙ sym c.is_id.ensures ∙ c.if-is_id.true)

pub returns-in-Slice : goal.returns-in-Slice
returns-in-Slice c = mixes_slice c.args.rule.now c.args.self.now c.in-Slice.field-0 c.in-Slice.field-1 (ap (λ r. r.1) (sym c.rule.view_is) ∙ c.in-Slice.is)
