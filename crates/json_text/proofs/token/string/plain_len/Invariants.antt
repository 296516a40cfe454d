use Rattle.std.proofs.Common.{◌≡◌, ◌+◌, ◌-◌, ◌≤◌, length, drop}
use Rattle.std.specs.List.{prefix_len}
use Rattle.json_text.specs.Unescaped.{is_plain}
use Rattle.json_text.proofs.token.string.plain_len.Given as goal

abbrev pub invariant-wide : goal.invariant-wide
invariant-wide l = (l.len ≤ length l.bytes) × (l.len + prefix_len is_plain (drop l.len l.bytes) ≡ prefix_len is_plain l.bytes)

abbrev pub decreases-wide : goal.decreases-wide
decreases-wide l = length l.bytes - l.len
