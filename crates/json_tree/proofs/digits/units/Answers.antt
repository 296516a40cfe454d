use Rattle.std.proofs.Common.{inl, inr, sym, arith}
use Rattle.std.proofs.lemmas.Int.{ints}
use Rattle.json_tree.proofs.Roundings.{rounded_lost, rounded_power, rounded_far, at_power}
use Rattle.json_tree.proofs.digits.units.Goals as goal

pub returns-then-r-clause-value : goal.returns-then-r-clause-value
returns-then-r-clause-value c v d = sym (rounded_lost v c.args.r c.args.power d c.if-r.true)

pub returns-then-power-ltminus38-clause-value : goal.returns-then-power-ltminus38-clause-value
returns-then-power-ltminus38-clause-value c v d = sym (rounded_far v c.args.r c.args.power d c.if-r.false (λ e. absurd (omega arith)) (inr (omega (arith, ints))))

pub returns-then-power-gt38-clause-value : goal.returns-then-power-gt38-clause-value
returns-then-power-gt38-clause-value c v d = sym (rounded_far v c.args.r c.args.power d c.if-r.false (λ e. absurd (omega arith)) (inl (omega (arith, ints))))

pub returns-clause-value : goal.returns-clause-value
returns-clause-value c v d = at_power _ v c.args.r.coefficient _ _ c.args.power c.scale_near.ensures.value (rounded_power v c.args.r c.args.power d c.if-r.false) (omega (arith, ints))
