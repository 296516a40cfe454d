use Rattle.std.proofs.Common.{sym, arith}
use Rattle.std.proofs.lemmas.Int.{ints}
use Rattle.json_tree.proofs.Scales.{fitted-high, fitted-low, fitted-large, fitted-over, below_wide}
use Rattle.json_tree.proofs.decimal.scale_near.Goals as goal

pub returns-then-power-gt38-clause-value : goal.returns-then-power-gt38-clause-value
returns-then-power-gt38-clause-value c = sym (fitted-high c.args.n c.args.power (omega arith) (omega (arith, ints)))

pub returns-then-power-ltminus39-clause-value : goal.returns-then-power-ltminus39-clause-value
returns-then-power-ltminus39-clause-value c = sym (fitted-low c.args.n c.args.power (omega arith) (below_wide c.args.n c.ranges.n.fits) (omega (arith, ints)))

pub returns-then-power-lt0-clause-value : goal.returns-then-power-lt0-clause-value
returns-then-power-lt0-clause-value c = (fitted-over c.args.n _ c.args.power c.over.result c.over.ensures (omega (arith, ints)) (omega (arith, ints)) (below_wide c.args.n c.ranges.n.fits)).0

pub returns-then-power-lt0-clause-range : goal.returns-then-power-lt0-clause-range
returns-then-power-lt0-clause-range c = (fitted-over c.args.n _ c.args.power c.over.result c.over.ensures (omega (arith, ints)) (omega (arith, ints)) (below_wide c.args.n c.ranges.n.fits)).1

pub returns-else-n-lt-LIMIT-clause-value : goal.returns-else-n-lt-LIMIT-clause-value
returns-else-n-lt-LIMIT-clause-value c = sym (fitted-large c.args.n c.args.power (omega (arith, ints)) (omega arith))
