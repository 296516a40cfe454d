use Rattle.std.proofs.Common.{◌≡◌, [], take}
use Rattle.store_core.specs.Opening.{missing}
use Rattle.store_core.proofs.open.missing_of.Given as goal

abbrev pub invariant-names : goal.invariant-names
invariant-names l = record { found : l.found.items ≡ missing l.listed [] (take l.place l.names) }
