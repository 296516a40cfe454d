use Rattle.std.proofs.Common.{sym, arith}
use Rattle.std.proofs.lemmas.Int.{ints}
use Rattle.json_text.proofs.NumeralValues.{not_whole, no_fraction, no_exponent, some_parts, parts_at}
use Rattle.json_text.proofs.token.numeral.parts_of.Goals as goal

pub returns-then-not-is_whole : goal.returns-then-not-is_whole
returns-then-not-is_whole c = not_whole c.args.bytes.now _ _ c.split_digits.ensures.front c.split_digits.ensures.rest (sym c.if-not-is_whole.ensures)

pub returns-in_default : goal.returns-in_default
returns-in_default c = no_fraction c.args.bytes.now _ _ c.split_digits.ensures.front c.split_digits.ensures.rest (sym c.if-not-is_whole.ensures) (sym c.in_default.ensures.value)

pub returns-in_default-exponent_of : goal.returns-in_default-exponent_of
returns-in_default-exponent_of c =
    no_exponent c.args.bytes.now _ _ c.split_digits.ensures.front c.split_digits.ensures.rest (c.in-Some.fraction.now, c.in-Some.rest.now) (sym c.if-not-is_whole.ensures) (sym c.in-Some.ensures.value) c.in_default-exponent_of.ensures

pub returns : goal.returns
returns c =
    let x = c.in-Some-exponent_of.ensures in
    let read = some_parts c.args.bytes.now _ _ c.split_digits.ensures.front c.split_digits.ensures.rest (c.in-Some.fraction.now, c.in-Some.rest.now) x.exponent (sym c.if-not-is_whole.ensures) (sym c.in-Some.ensures.value) x.read in
    parts_at c.args.bytes.now _ x.exponent x.cut x.high x.low _ (omega (arith, ints)) read c.split_digits.ensures.digits c.in-Some.ensures.digits
