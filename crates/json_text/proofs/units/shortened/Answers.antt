use Rattle.std.proofs.Common.{◌≤◌, arith}
use Rattle.std.proofs.Math.Nat.{div-le_self}
use Rattle.json_text.proofs.PrintSteps.{ten_positive, one_over, left_over, trimmed_over}
use Rattle.json_text.proofs.units.shortened.Goals as goal

pub nonzero_rem-fraction : goal.nonzero_rem-fraction
nonzero_rem-fraction c = ten_positive c.args.power c.args.by c.requires.power

pub nonzero_div-result : goal.nonzero_div-result
nonzero_div-result c = ten_positive c.args.power c.args.by c.requires.power

pub nonzero_div-result-2 : goal.nonzero_div-result-2
nonzero_div-result-2 c = ten_positive c.args.power c.args.by c.requires.power

pub returns-clause-fraction : goal.returns-clause-fraction
returns-clause-fraction c =
    let f = c.args.fraction in
    let one = c.requires.fraction.0 in
    let room : c.args.by ≤ f.digits = omega arith in (
      one_over f.digits c.args.by f.one c.args.power one c.requires.power room,
      left_over f.digits c.args.by f.one c.args.power f.left one c.requires.power room c.requires.fraction.1,
      omega (arith, div-le_self f.one c.args.power, c.requires.fraction.2),
    )

pub returns-clause-same : goal.returns-clause-same
returns-clause-same c = trimmed_over c.args.by c.args.fraction.digits c.args.fraction.left c.args.power c.requires.power (omega arith) (omega arith)
