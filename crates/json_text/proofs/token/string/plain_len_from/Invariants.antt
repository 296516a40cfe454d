use Rattle.std.proofs.Common.{◌≡◌, ◌+◌, ◌-◌, ◌≤◌, length, drop}
use Rattle.std.specs.List.{prefix_len}
use Rattle.json_text.specs.Unescaped.{is_plain}
use Rattle.json_text.proofs.token.string.plain_len_from.Given as goal

abbrev pub invariant-run : goal.invariant-run
invariant-run l = (l.len ≤ length l.bytes) × (l.len + prefix_len is_plain (drop l.len l.bytes) ≡ l.from + prefix_len is_plain (drop l.from l.bytes))

abbrev pub decreases-run : goal.decreases-run
decreases-run l = length l.bytes - l.len
