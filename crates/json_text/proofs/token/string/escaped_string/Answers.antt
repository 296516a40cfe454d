use Rattle.std.proofs.Common.{◌≡◌, ◌++◌, ◌∙◌, [], List, ℕ, Option, Some, None, length, take, encode_utf8, sym, ap, arith, rules}
use Rattle.std.proofs.lemmas.List.{append-nil, length-drop}
use Rattle.std.specs.String.{string_bytes}
use Rattle.std.specs.List.{prefix_len}
use Rattle.json_text.specs.Text.{string_at, plain, after}
use Rattle.json_text.specs.Unescaped.{is_plain}
use Rattle.json_text.proofs.StringSteps.{run_part, after-after}
use Rattle.json_text.proofs.token.string.escaped_string.Goals as goal
use Rattle.json_text.proofs.token.string.escaped_string.Goals.{After-part_of}

-- the bytes of the part that was appended
appended : (c : After-part_of) → string_bytes c.parts.content ++ take (prefix_len is_plain c.parts.rest.now) c.parts.rest.now ≡ string_bytes c.push_str.new.self
appended c = ap (λ f. string_bytes c.parts.content ++ f) (sym c.split_plain.ensures.front) ∙ sym c.in_ok-push_str.ensures.bytes

of_part : (c : After-part_of) (r : Option (List ℕ × List ℕ)) → string_at plain c.split_plain.result.1.now ≡ r → string_at plain c.args.text.now ≡ after (string_bytes c.push_str.new.self) r
of_part c r p =
    run_part c.args.text.now (string_bytes c.parts.content) c.parts.rest.now c.split_plain.result.1.now r c.parts.invariant.1 c.split_plain.ensures.rest p
    ∙ ap (λ s. after s r) (appended c)

pub parts-smaller : goal.parts-smaller
parts-smaller c =
    let part = c.in-Char.ensures.1 in
    omega (arith, part, ap length c.split_plain.ensures.rest, length-drop (prefix_len is_plain c.parts.rest.now) c.parts.rest.now)

pub parts-preserved : goal.parts-preserved
parts-preserved c = (
  search rules,
  of_part (goal.at.parts-preserved c).After-part_of _ c.in-Char.ensures.0 ∙ after-after (string_bytes c.push_str.new.self) (encode_utf8 c.in-Char.c) _
      ∙ ap (λ s. after s (string_at plain c.in-Char.after.now)) (sym c.in_ok-push-in-Char.ensures.bytes),
)

pub returns-in-Closing : goal.returns-in-Closing
returns-in-Closing c =
    of_part (goal.at.returns-in-Closing c).After-part_of (Some ([], c.in-Closing.after.now)) c.in-Closing.ensures
    ∙ ap (λ s. Some (s, c.in-Closing.after.now)) (append-nil (string_bytes c.push_str.new.self) ∙ sym c.in_ok-of_string-in-Closing.ensures)

pub returns-in-Malformed : goal.returns-in-Malformed
returns-in-Malformed c = of_part (goal.at.returns-in-Malformed c).After-part_of None c.in-Malformed.ensures
