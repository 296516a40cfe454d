use Rattle.col_keeper.proofs.Asking.{asks_document}
use Rattle.col_keeper.proofs.laws.probes_ask_documents.Goals as goal

pub returns : goal.returns
returns c = asks_document
