use Rattle.std.proofs.Common.{◌≡◌, ◌∙◌, rules}
use Rattle.filter_plan.proofs.Near.{met_near}
use Rattle.filter_plan.proofs.judge.meets.Goals as goal

pub returns-then-eq : goal.returns-then-eq
returns-then-eq c =
    let same : c.in-Has.own ≡ c.args.path.now = search rules in
    c.is_kept.ensures ∙ met_near c.args.path.now c.in-Has.own c.in-Has.kept c.args.probe.now c.args.run.now c.args.columns.now c.in-Has.is same c.requires.only c.requires.asked
