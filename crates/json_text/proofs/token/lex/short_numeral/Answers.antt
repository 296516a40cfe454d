use Rattle.std.proofs.Common.{◌∙◌, ap}
use Rattle.json_text.proofs.TokenEnds.{run_boundary, numeral_is_ascii}
use Rattle.json_text.specs.Numeral.{is_numeral_byte}
use Rattle.std.specs.List.{prefix_len}
use Rattle.json_text.proofs.token.lex.short_numeral.Goals as goal

pub range_from-requires : goal.range_from-requires
range_from-requires c =
    λ some. run_boundary is_numeral_byte c.args.text.now c.in_ok-units.len numeral_is_ascii (c.in_ok-units.ensures.all ∙ ap (prefix_len is_numeral_byte) c.as_bytes.ensures.value) c.utf8.text some
