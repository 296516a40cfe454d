use Rattle.std.proofs.Common.{◌≡◌, ◌++◌, length}
use Rattle.std.specs.List.{flat_map}
use Rattle.json_text.specs.Print.{escaped, Extends}
use Rattle.json_text.proofs.print.text.write_content.Given as goal

abbrev pub invariant-parts : goal.invariant-parts
invariant-parts l = record {
  written : l.out.items ++ flat_map escaped l.rest ≡ l.initial.out.items ++ flat_map escaped l.text;
  kept : Extends l.initial.out.items l.out.items;
}

abbrev pub decreases-parts : goal.decreases-parts
decreases-parts l = length l.rest
