use Rattle.std.proofs.Common.{◌≡◌, ◌<◌, ◌^◌, ◌++◌, ◌∙◌, ◌-ℤ◌, ◌+ℤ◌, pos, length, false, sym, subst, ap, arith}
use Rattle.std.specs.Str.Parse.{digits_value, digits_value_after}
use Rattle.std.proofs.lemmas.Int.{ints}
use Rattle.json_tree.specs.Rounded.{IsRounded}
use Rattle.json_tree.specs.Num.{units_of}
use Rattle.json_tree.specs.Decimals.{fitted}
use Rattle.json_tree.specs.DigitLists.{digits_append}
use Rattle.json_tree.proofs.Roundings.{cut_alike, zero_rounded, few_rounded, few_whole, few_digits}
use Rattle.json_tree.proofs.digits.digits_units.Goals as goal

pub with_few_digits-requires-clause-few : goal.with_few_digits-requires-clause-few
with_few_digits-requires-clause-few c = few_whole c.args.whole.now c.requires.whole (omega arith)

pub with_few_digits-requires-then-fraction-whole-clause-few : goal.with_few_digits-requires-then-fraction-whole-clause-few
with_few_digits-requires-then-fraction-whole-clause-few c =
    few_digits c.with_few_digits.result c.args.whole.now c.args.fraction.now c.with_few_digits.ensures c.requires.whole c.requires.fraction (omega arith) (omega arith)

pub few_units-requires-clause-few : goal.few_units-requires-clause-few
few_units-requires-clause-few c =
    let n = few_digits c.with_few_digits.result c.args.whole.now c.args.fraction.now c.with_few_digits.ensures c.requires.whole c.requires.fraction (omega arith) (omega arith) in
    omega (arith, n, c.with_few_digits-then-fraction-whole.ensures)

pub returns-then-fraction-whole-clause-value : goal.returns-then-fraction-whole-clause-value
unfolding units_of
returns-then-fraction-whole-clause-value c e cut =
    let w = c.args.whole.now in
    let f = c.args.fraction.now in
    let n = c.with_few_digits-then-fraction-whole.result in
    let is : n ≡ digits_value 10 (w ++ f) = c.with_few_digits-then-fraction-whole.ensures ∙ ap (λ k. digits_value_after 10 k f) c.with_few_digits.ensures ∙ sym (digits_append 0 w f) in
    let few = few_digits c.with_few_digits.result w f c.with_few_digits.ensures c.requires.whole c.requires.fraction (omega arith) (omega arith) in
    let small : n < 10 ^ 18 = omega (arith, few, c.with_few_digits-then-fraction-whole.ensures) in
    c.few_units.ensures.value
    ∙ cut_alike n (record { coefficient = n; zeros = 0; lost = false }) e c.args.exponent _ (length f) (few_rounded n small) (omega arith) cut (omega arith) (omega (arith, ints))
    ∙ ap (λ k. fitted k ((e -ℤ pos (length f)) +ℤ pos 18)) is

pub returns-clause-value : goal.returns-clause-value
unfolding units_of
returns-clause-value c e cut =
    let w = c.args.whole.now in
    let f = c.args.fraction.now in
    let r = c.with_digits-2.result in
    let first = c.with_digits.ensures.value 0 zero_rounded in
    let both : IsRounded (digits_value 10 (w ++ f)) r = subst (λ v. IsRounded v r) (sym (digits_append 0 w f)) (c.with_digits-2.ensures.value (digits_value_after 10 0 w) first) in
    c.units.ensures.value (digits_value 10 (w ++ f)) both
    ∙ cut_alike (digits_value 10 (w ++ f)) r e c.args.exponent _ (length f) both (omega (arith, c.with_digits.ensures.zeros, c.with_digits-2.ensures.zeros)) cut (omega arith) (omega (arith, ints))
