use Rattle.std.proofs.Common.{◌≡◌, ◌+◌, ◌*◌, ◌^◌, ◌<◌, true, sym, subst, arith, rules}
use Rattle.json_text.specs.ShortNumeral.{IsShortFraction}
use Rattle.json_text.proofs.ShortNumeral.{some_fraction, fits_units}
use Rattle.json_text.proofs.token.numeral.short_fraction.Goals as goal

pub overflow_mul-result : goal.overflow_mul-result
overflow_mul-result c =
    let f = c.few_digits-n.ensures in
    let small : c.few_digits-n.result.0 * c.ten_to.result < 10 ^ 18 = subst (λ t. c.few_digits-n.result.0 * t < 10 ^ 18) (sym c.ten_to.ensures.value) (fits_units c.few_digits-n.result.0 c.few_digits-n.result.1 f.small f.few) in
    omega (arith, small)

pub returns : goal.returns
returns c =
    let ended : c.has_ended-2.result ≡ true = search rules in
    subst (λ t. IsShortFraction c.args.bytes.now (c.few_digits-n.result.0 * t) (c.few_digits-n.result.1 + 1)) (sym c.ten_to.ensures.value)
    (some_fraction c.args.bytes.now c.in-Some.rest.now c.split_at.result.1.now c.few_digits-n.result.0 c.few_digits-n.result.1 c.in-Some.ensures c.few_digits-n.ensures (omega arith) c.split_at.ensures.back (c.has_ended-2.ensures ended))
