use Rattle.std.proofs.Common.{◌≡◌, ◌+◌, ◌-◌, ◌≤◌, length, drop}
use Rattle.std.specs.List.{prefix_len}
use Rattle.json_text.specs.Lex.{is_letter}
use Rattle.json_text.proofs.token.lex.word_len.Given as goal

abbrev pub invariant-run : goal.invariant-run
invariant-run l = (l.len ≤ length l.bytes) × (l.len + prefix_len is_letter (drop l.len l.bytes) ≡ prefix_len is_letter l.bytes)

abbrev pub decreases-run : goal.decreases-run
decreases-run l = length l.bytes - l.len
