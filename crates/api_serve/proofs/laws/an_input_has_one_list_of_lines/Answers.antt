use Rattle.api_serve.proofs.HasLines.{lines_are_one}
use Rattle.api_serve.proofs.laws.an_input_has_one_list_of_lines.Goals as goal

pub returns : goal.returns
returns c = lines_are_one
