use Rattle.std.proofs.Common.{◌≡◌, ◌+◌, ◌-◌, ◌≤◌, length, drop}
use Rattle.std.specs.List.{prefix_len}
use Rattle.json_text.specs.Numeral.{is_numeral_byte}
use Rattle.json_text.proofs.token.numeral.numeral_len.Given as goal

abbrev pub invariant-run : goal.invariant-run
invariant-run l = (l.len ≤ length l.bytes) × (l.len + prefix_len is_numeral_byte (drop l.len l.bytes) ≡ prefix_len is_numeral_byte l.bytes)

abbrev pub decreases-run : goal.decreases-run
decreases-run l = length l.bytes - l.len
