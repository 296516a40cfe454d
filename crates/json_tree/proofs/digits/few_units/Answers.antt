use Rattle.std.proofs.Common.{rules}
use Rattle.json_tree.proofs.Roundings.{few_rounded}
use Rattle.json_tree.proofs.digits.few_units.Goals as goal

pub returns-clause-value : goal.returns-clause-value
returns-clause-value c =
    let is = c.units.ensures.value c.args.n (few_rounded c.args.n c.requires.few) in
    search (rules, is)
