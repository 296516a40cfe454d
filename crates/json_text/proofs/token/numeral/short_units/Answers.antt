use Rattle.std.proofs.Common.{◌≡◌, true, sym, ◌∙◌, rules}
use Rattle.json_text.proofs.ShortNumeral.{is_short}
use Rattle.json_text.proofs.token.numeral.short_units.Goals as goal

pub returns : goal.returns
returns c =
    let ds = c.split_at.result.0.now in
    let rest = c.split_at.result.1.now in
    let whole : c.is_whole.result ≡ true = search rules in
    is_short c.args.bytes.now ds rest c.few_digits-n.result.0 c.few_digits-n.result.1 _ _ c.few_digits-n.ensures c.split_at.ensures.front c.split_at.ensures.back (sym c.is_whole.ensures ∙ whole) c.in_ok-fraction.ensures
