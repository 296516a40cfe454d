use Rattle.std.proofs.Common.{sym, arith}
use Rattle.std.proofs.lemmas.Int.{ints}
use Rattle.json_tree.proofs.Scales.{coefficient_is, product_scaled, product_large}
use Rattle.json_tree.proofs.decimal.product.Goals as goal

pub returns-in-Some-clause-value : goal.returns-in-Some-clause-value
returns-in-Some-clause-value c =
    let first = c.split_zeros-c.ensures in
    let second = c.split_zeros-d.ensures in
    product_scaled c.args.a c.args.b _ _ _ _ c.in-Some.product _ c.scale_near.result (coefficient_is c.args.a _ _ first.whole first.most first.rest) (coefficient_is c.args.b _ _ second.whole second.most second.rest)
    first.whole second.whole (c.in-Some.ensures.1) (omega arith) (omega (arith, ints, first.most, second.most)) c.scale_near.ensures.value

pub returns-in_default-clause-value : goal.returns-in_default-clause-value
returns-in_default-clause-value c =
    let first = c.split_zeros-c.ensures in
    let second = c.split_zeros-d.ensures in
    sym (product_large c.args.a c.args.b _ _ (coefficient_is c.args.a _ _ first.whole first.most first.rest) (coefficient_is c.args.b _ _ second.whole second.most second.rest) (omega (arith, c.in-Some.ensures.1)))

pub returns-in_default-2-clause-value : goal.returns-in_default-2-clause-value
returns-in_default-2-clause-value c =
    let first = c.split_zeros-c.ensures in
    let second = c.split_zeros-d.ensures in
    sym (product_large c.args.a c.args.b _ _ (coefficient_is c.args.a _ _ first.whole first.most first.rest) (coefficient_is c.args.b _ _ second.whole second.most second.rest) (omega (arith, c.in_default.ensures)))
