use Rattle.std.proofs.Common.{◌≡◌, ◌+◌, ◌-◌, ◌≤◌, length, drop}
use Rattle.std.specs.List.{prefix_len}
use Rattle.std.specs.Char.{is_ascii_digit}
use Rattle.json_text.proofs.token.numeral.digits_len.Given as goal

abbrev pub invariant-run : goal.invariant-run
invariant-run l = (l.len ≤ length l.bytes) × (l.len + prefix_len is_ascii_digit (drop l.len l.bytes) ≡ prefix_len is_ascii_digit l.bytes)

abbrev pub decreases-run : goal.decreases-run
decreases-run l = length l.bytes - l.len
