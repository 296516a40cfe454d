use Rattle.std.proofs.Common.{◌∙◌, ap}
use Rattle.json_text.proofs.TokenEnds.{run_boundary, letter_is_ascii}
use Rattle.json_text.specs.Lex.{is_letter}
use Rattle.std.specs.List.{prefix_len}
use Rattle.json_text.proofs.token.lex.word_token.Goals as goal

pub range_from-requires : goal.range_from-requires
range_from-requires c = run_boundary is_letter c.args.text.now c.word_len-len.result letter_is_ascii (c.word_len-len.ensures ∙ ap (prefix_len is_letter) c.as_bytes.ensures.value) c.utf8.text
