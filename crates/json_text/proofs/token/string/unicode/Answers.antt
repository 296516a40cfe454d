use Rattle.std.proofs.Common.{◌∙◌, sym, ap, encode_utf8}
use Rattle.json_text.specs.Text.{after, after_u, after_high, string_at, plain}
use Rattle.json_text.proofs.CodeUnits.{unicode_none, unicode_high, unicode_low, unicode_char, same_part}
use Rattle.json_text.proofs.token.string.unicode.Goals as goal

pub returns-then-is_high_half : goal.returns-then-is_high_half
returns-then-is_high_half c =
    same_part c.low_half.result after_u (after_high c.in-Some.unit) c.args.text.now c.in-Some.rest.now
    (unicode_high c.args.text.now c.in-Some.unit c.in-Some.rest.now (sym c.in-Some.ensures.value) (sym c.if-is_high_half.ensures)) c.in-Some.ensures.small.1 c.low_half.ensures

pub returns-then-is_low_half : goal.returns-then-is_low_half
returns-then-is_low_half c = unicode_low c.args.text.now c.in-Some.unit c.in-Some.rest.now (sym c.in-Some.ensures.value) (sym c.if-is_high_half.ensures) (sym c.if-is_low_half.ensures)

pub returns-in-Some-from_u32 : goal.returns-in-Some-from_u32
returns-in-Some-from_u32 c = (
  unicode_char c.args.text.now c.in-Some.unit c.in-Some.rest.now (sym c.in-Some.ensures.value) (sym c.if-is_high_half.ensures) (sym c.if-is_low_half.ensures)
      ∙ ap (λ x. after (encode_utf8 x) (string_at plain c.in-Some.rest.now)) (sym c.in-Some-from_u32.ensures.value.1),
  c.in-Some.ensures.small.1,
)

pub returns-in-None : goal.returns-in-None
returns-in-None c = unicode_none c.args.text.now (sym c.in-None.ensures.value)
