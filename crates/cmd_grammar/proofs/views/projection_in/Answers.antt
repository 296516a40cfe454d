use Rattle.std.proofs.Common.{ap}
use Rattle.std.specs.Option.{option_map}
use Rattle.json_tree.specs.View.{tree}
use Rattle.view_sort.specs.Projection.{projection_fault}
use Rattle.view_sort.specs.declared.fault.ViewFault.TheVariants.{NoMemory}
use Rattle.cmd_grammar.specs.Refused.{view_error}
use Rattle.cmd_grammar.proofs.Part.{faulty}
use Rattle.cmd_grammar.proofs.views.projection_in.Goals as goal

pub returns-in-Ok : goal.returns-in-Ok
returns-in-Ok c = (ap (option_map view_error) c.in-Ok.ensures.0, c.in-Ok.ensures.1)

pub returns-in-Err : goal.returns-in-Err
returns-in-Err c = faulty view_error projection_fault NoMemory (tree c.args.value.now) c.in-Err.fault c.refused.result c.in-Err.ensures c.refused.ensures.told c.refused.ensures.wanting
