use Rattle.std.proofs.Common.{◌≡◌, ◌+◌, drop, length}
use Rattle.std.specs.List.{flat_map}
use Rattle.json_text.specs.Print.{capped, escaped}
use Rattle.json_text.proofs.print.measure.string_len.Given as goal

abbrev pub invariant-bytes : goal.invariant-bytes
invariant-bytes l = capped (l.len + (length (flat_map escaped (drop l.b-index l.b-items)) + 1)) ≡ capped (length (flat_map escaped l.text) + 2)
