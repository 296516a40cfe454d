use Rattle.std.proofs.Common.{◌∙◌, refl, arith}
use Rattle.std.proofs.Math.Nat.{div-le_self}
use Rattle.json_text.proofs.PrintSteps.{one_over, left_over, trimmed_over, done_padded}
use Rattle.json_text.proofs.units.without_zeros.Goals as goal

pub zeros-preserved : goal.zeros-preserved
zeros-preserved c =
    let i = c.zeros.invariant in
    record {
      one = one_over c.zeros.digits 1 c.zeros.one 10 i.one refl (omega arith);
      small = left_over c.zeros.digits 1 c.zeros.one 10 c.zeros.left i.one refl (omega arith) i.small;
      wide = omega (arith, div-le_self c.zeros.one 10, i.wide);
      few = omega (arith, i.few);
      same = trimmed_over 1 c.zeros.digits c.zeros.left 10 refl (omega arith) (omega arith) ∙ i.same;
    }

pub returns-else-left-eq0-clause-digits : goal.returns-else-left-eq0-clause-digits
returns-else-left-eq0-clause-digits c = done_padded c.zeros.digits c.zeros.left (λ h. omega (arith, h.1)) ∙ c.zeros.invariant.same

pub returns-after-zeros-clause-digits : goal.returns-after-zeros-clause-digits
returns-after-zeros-clause-digits c = done_padded c.zeros.digits c.zeros.left (λ h. omega (arith, h.0)) ∙ c.zeros.invariant.same
