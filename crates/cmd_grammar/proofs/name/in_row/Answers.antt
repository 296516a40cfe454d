use Rattle.std.proofs.lemmas.Option.{slice_get-get_or}
use Rattle.cmd_grammar.specs.declared.name.TheConstants.{IN_ORDER}
use Rattle.cmd_grammar.proofs.name.in_row.Goals as goal

pub returns : goal.returns
returns c = slice_get-get_or IN_ORDER c.args.row _ c.requires
