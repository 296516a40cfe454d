use Rattle.std.proofs.Common.{◌∙◌, sym, ap, encode_utf8}
use Rattle.json_text.specs.Text.{after, string_at, plain}
use Rattle.json_text.proofs.CodeUnits.{low_none, low_not, low_char}
use Rattle.json_text.proofs.token.string.low_half.Goals as goal

pub returns-then-not-is_low_half : goal.returns-then-not-is_low_half
returns-then-not-is_low_half c = low_not c.args.text.now c.in-Some.low c.in-Some.rest.now c.args.high (sym c.in-Some.ensures.value) (sym c.if-not-is_low_half.ensures)

pub returns-in-Some-from_u32 : goal.returns-in-Some-from_u32
returns-in-Some-from_u32 c = (
  low_char c.args.text.now c.in-Some.low c.in-Some.rest.now c.args.high (sym c.in-Some.ensures.value) (sym c.if-not-is_low_half.ensures)
      ∙ ap (λ x. after (encode_utf8 x) (string_at plain c.in-Some.rest.now)) (sym c.in-Some-from_u32.ensures.value.1),
  c.in-Some.ensures.small.1,
)

pub returns-in-None : goal.returns-in-None
returns-in-None c = low_none c.args.text.now c.args.high (sym c.in-None.ensures.value)
