use Rattle.std.proofs.Common.{◌≡◌, length}
use denote.Text.{Utf8}
use denote.Shadow.{shadow}
use Rattle.std.specs.String.{string_bytes}
use Rattle.json_text.specs.Text.{string_at, plain, after}
use Rattle.json_text.proofs.token.string.escaped_string.Given as goal

abbrev pub invariant-parts : goal.invariant-parts
invariant-parts l = shadow (Utf8 l.rest) × (string_at plain l.text ≡ after (string_bytes l.content) (string_at plain l.rest))

abbrev pub decreases-parts : goal.decreases-parts
decreases-parts l = length l.rest
