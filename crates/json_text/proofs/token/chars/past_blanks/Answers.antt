use Rattle.std.proofs.Common.{◌∙◌, ap}
use Rattle.json_text.proofs.TokenEnds.{run_boundary, blank_is_ascii}
use Rattle.json_text.specs.Lex.{is_blank}
use Rattle.std.specs.List.{prefix_len}
use Rattle.json_text.proofs.token.chars.past_blanks.Goals as goal

pub range_from-requires : goal.range_from-requires
range_from-requires c = run_boundary is_blank c.args.text.now c.blanks_len-len.result blank_is_ascii (c.blanks_len-len.ensures ∙ ap (prefix_len is_blank) c.as_bytes.ensures.value) c.utf8.text
