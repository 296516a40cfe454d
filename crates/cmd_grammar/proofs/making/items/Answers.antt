use Rattle.std.proofs.Common.{ap, sym, ◌∙◌}
use Rattle.json_tree.specs.RoundTrips.{list_of_elements-elements_of}
use Rattle.json_tree.specs.View.{tree}
use Rattle.cmd_grammar.specs.Parts.{elements_in}
use Rattle.cmd_grammar.proofs.making.items.Goals as goal

pub returns-in-List : goal.returns-in-List
returns-in-List c = sym (list_of_elements-elements_of c.in-List.items) ∙ ap elements_in (ap tree (sym c.in-List.is))
