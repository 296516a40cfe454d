use Rattle.std.proofs.Common.{◌∙◌, ap}
use Rattle.std.specs.List.{prefix_len}
use Rattle.json_text.specs.Unescaped.{is_plain}
use Rattle.json_text.proofs.StringSteps.{plain_boundary}
use Rattle.json_text.proofs.token.string.split_plain.Goals as goal

pub range-requires-clause-end_boundary : goal.range-requires-clause-end_boundary
range-requires-clause-end_boundary c = plain_boundary c.args.text.now c.plain_len-len.result (c.plain_len-len.ensures ∙ ap (prefix_len is_plain) c.as_bytes.ensures.value)

pub range_from-requires : goal.range_from-requires
range_from-requires c = λ _. plain_boundary c.args.text.now c.plain_len-len.result (c.plain_len-len.ensures ∙ ap (prefix_len is_plain) c.as_bytes.ensures.value)
