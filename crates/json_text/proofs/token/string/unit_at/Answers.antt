use Rattle.std.proofs.Common.{◌<◌, get_or, arith, subst}
use Rattle.std.proofs.lemmas.Str.{IsCharBoundary-after_ascii}
use Rattle.json_text.proofs.token.string.unit_at.Goals as goal

pub range_from-requires : goal.range_from-requires
range_from-requires c =
    let low : get_or c.args.text.now 3 0 < 128 = subst (λ l. get_or l 3 0 < 128) c.as_bytes-bytes.ensures.value c.in-Some.ensures.small.1 in
    λ _. IsCharBoundary-after_ascii c.args.text.now 3 c.utf8.text (omega arith) low
