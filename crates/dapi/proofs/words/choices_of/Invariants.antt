use Rattle.std.proofs.Common.{map, take, string_bytes}
use Rattle.dapi.specs.Chosen.{HasChosen}
use Rattle.dapi.proofs.words.choices_of.Given as goal

abbrev pub invariant-options : goal.invariant-options
invariant-options l = HasChosen (map string_bytes (take l.option-index l.options)) l.choices
