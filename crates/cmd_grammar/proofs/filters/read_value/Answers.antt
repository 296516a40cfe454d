use Rattle.std.proofs.Common.{ap}
use Rattle.std.specs.Option.{option_map}
use Rattle.json_tree.specs.View.{tree}
use Rattle.filter_tree.specs.Faults.{first_fault}
use Rattle.filter_tree.specs.declared.fault.FilterFault.TheVariants.{NoMemory}
use Rattle.cmd_grammar.specs.Refused.{filter_error}
use Rattle.cmd_grammar.proofs.Part.{faulty}
use Rattle.cmd_grammar.proofs.filters.read_value.Goals as goal

pub returns-in-Ok-clause-answers : goal.returns-in-Ok-clause-answers
returns-in-Ok-clause-answers c = (ap (option_map filter_error) c.in-Ok.ensures.spells.0, c.in-Ok.ensures.spells.1)

pub returns-in-Ok-clause-ready : goal.returns-in-Ok-clause-ready
returns-in-Ok-clause-ready c = λ w. record { ready = c.in-Ok.ensures.ready; writable = c.in-Ok.ensures.writable w }

pub returns-in-Err-clause-answers : goal.returns-in-Err-clause-answers
returns-in-Err-clause-answers c = faulty filter_error first_fault NoMemory (tree c.args.value.now) c.in-Err.fault c.refused.result c.in-Err.ensures.spells c.refused.ensures.told c.refused.ensures.wanting
