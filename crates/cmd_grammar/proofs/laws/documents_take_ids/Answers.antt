use Rattle.cmd_grammar.proofs.Ids.{takes, keeps}
use Rattle.cmd_grammar.proofs.laws.documents_take_ids.Goals as goal

pub returns-clause-own : goal.returns-clause-own
returns-clause-own c = keeps

pub returns-clause-made : goal.returns-clause-made
returns-clause-made c = takes
