use Rattle.std.proofs.lemmas.Option.{slice_get-get_or}
use Rattle.name_tables.specs.declared.code.TheConstants.{IN_ORDER}
use Rattle.name_tables.proofs.code.Code.in_row.Goals as goal

pub returns : goal.returns
returns c = slice_get-get_or IN_ORDER c.args.row _ c.requires
